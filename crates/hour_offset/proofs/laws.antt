pub mod HourOffsetLaws
pub mod BytesLaws
pub mod TallyLaws
pub mod EndLaws
