-- Two names, by what `cmp` answers.
use Rattle.std.specs.Prelude.{◌≡◌}
use Rattle.std.specs.Ordering.{nat_cmp, is_lt, is_eq}
use Rattle.std.specs.Cmp.Lexicographic.{slice_cmp, texts_ties}
use Rattle.std.proofs.Common.{sym, ◌∙◌}
use Rattle.money.specs.declared.names.Name.{Name}
use Rattle.money.specs.Names.{decoded_bytes, name_before, same_name}
use Rattle.money.proofs.laws.NameLaws.{name-lt, name-eq}

pub before-by : (a b : Name) → name_before (decoded_bytes a) (decoded_bytes b) ≡ is_lt (slice_cmp nat_cmp (decoded_bytes a) (decoded_bytes b))
before-by a b = sym (name-lt a b)

pub same-by : (a b : Name) → same_name a b ≡ is_eq (slice_cmp nat_cmp (decoded_bytes a) (decoded_bytes b))
same-by a b = sym (name-eq a b) ∙ texts_ties (decoded_bytes a) (decoded_bytes b)

pub ruleset orders = (before-by, same-by)
