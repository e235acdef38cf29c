-- What the book's tables and contracts cite of the record layer: heads of records, changes written of their views, and what names, keys and prices are as reading makes them.
pub use Rattle.records.specs.tables.Viewed.{viewed_bytes}
pub use Rattle.records.specs.tables.Heads.{head_key, nameable, name_head, NameHeadIs}
pub use Rattle.records.specs.tables.Formed.{Padded, Wellformed, PricesFit}
