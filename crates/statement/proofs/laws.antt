pub mod DecimalLaws
pub mod LineLaws
pub mod TotalLaws
pub mod PutLaws
pub mod StatementLaws
pub mod PageLineLaws
pub mod PageLaws
pub mod Examples
