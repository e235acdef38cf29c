-- The head of a change that is read by itself, and the bytes of a name, by the tests that the code makes.
use Rattle.std.specs.Prelude.{◌≡◌, Bool, true, false, cond, ◌≤◌, eqb}
use Rattle.std.proofs.Common.{arith, eqb-true}
use Rattle.money.specs.Names.{max_name, name_ok}
use Rattle.money.proofs.laws.NameLaws.{name-most}
use Rattle.records.specs.Marks.{has_name}
use Rattle.records.specs.tables.Heads.{nameable}
use Rattle.records.specs.declared.keys.Key.{Key}

module _ (k : Key) where
  pub able_short : nameable k ≡ true → k.name.len ≤ max_name
  unfolding nameable
  able_short = go (has_name k.mark)
    where
      go : (b : Bool) → cond b (name_ok k.name) (eqb k.name.len 0) ≡ true → k.name.len ≤ max_name
      go true f = name-most k.name f
      go false f = omega (arith, eqb-true k.name.len 0 f)
