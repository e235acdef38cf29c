-- A name written into bytes of its own.
use Rattle.std.proofs.Common.{◌≤◌, arith, length, length-take, length-append, append_assoc}
use Rattle.money.specs.Names.{max_name}
use Rattle.money.proofs.laws.NameLaws.{name-most}
use Rattle.money.specs.declared.names.Name.{Name}
use Rattle.records.specs.Names.{max_spelling, spell, bytes_of}
use Rattle.records.proofs.laws.NameLaws.{spell-more, spell-length, spell_byte-length, spelling-full, spelling-none}

pub spell-most : (n : Name) → n.len ≤ max_name → length (spell (bytes_of n)) ≤ max_spelling
spell-most n h = omega (arith, spell-length (bytes_of n), length-take n.len n.bytes)

-- for `push_byte`, `push_name` and `spelled_len`
pub ruleset spellings = (spell-more, spell_byte-length, length-append, append_assoc)

-- for `spell_name`
pub ruleset spelled = (name-most, spelling-full, spelling-none)
