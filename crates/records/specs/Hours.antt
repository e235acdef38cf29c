-- 01, "Records" and "Numbers a call can bring back": what an hour holds, and keys of one name. Assumes nothing.
use Rattle.std.specs.Prelude.{Bool, ℕ}
use Rattle.records.specs.Marks.{limit}
use Rattle.records.specs.Keys.{same}
use Rattle.records.specs.declared.keys.Key.{Key}

-- "hour holds 16 of that mark (8 for `GH`)", by the key's mark
unfoldable pub limit_of : Key → ℕ
limit_of k = limit k.mark

-- the key of that mark and name in an hour
unfoldable pub at_hour : Key → ℕ → Key
at_hour k h = record { mark = k.mark; hour = h; name = k.name }

-- one mark and name: the same key in one hour
unfoldable pub same_name : Key → Key → Bool
same_name a b = same a (at_hour b a.hour)
