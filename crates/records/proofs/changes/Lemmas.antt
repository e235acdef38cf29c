-- A change, field by field, at its places in some bytes.
use Rattle.std.specs.Prelude.{◌≡◌, refl, List, [], ◌∷◌, ℕ, ◌+◌, ◌-◌, ◌≤◌, ◌<◌, length, take, Result, Ok, Err}
use Rattle.std.specs.Result.{IsErrAnd}
use Rattle.std.proofs.Common.{sym, ap, ◌∙◌, arith, length-append, length-drop}
use Rattle.std.proofs.Math.Nat.{sub_self}
use Rattle.money.specs.Names.{max_name}
use Rattle.money.specs.Refusals.{number_of, bytes_left_over}
use Rattle.money.specs.declared.names.Name.{Name}
use Rattle.money.specs.declared.refusals.Refusal.{Refusal}
use Rattle.records.specs.Reading.{Res, bad, got, from}
use Rattle.records.specs.Numbers.{hour}
use Rattle.records.specs.Layouts.{taken}
use Rattle.records.specs.Changes.{made, body_of, body_for, head, name_for, rest, change, fine, fault, whole}
use Rattle.records.specs.tables.Inner.{layout_for, Stands, ReadIs}
use Rattle.records.specs.declared.marks.Mark.{Mark}
use Rattle.records.specs.declared.marks.Kind.{Kind}
use Rattle.records.specs.declared.marks.Kind.TheVariants.{File, Correct, Withdraw}
use Rattle.records.specs.declared.marks.Wanted.{Wanted}
use Rattle.records.specs.declared.keys.Key.{Key}
use Rattle.records.specs.declared.changes.Read.{Read}
use Rattle.records.proofs.fields.Step.{bind-ok, bind-err}
use Rattle.records.proofs.laws.ReaderLaws.{Lawful, lawful-got, lawful-layout}

pub length_from : (s : List ℕ) (at : ℕ) → length (from s at) ≡ length s - at
unfolding from
length_from s at = length-drop at s

-- what was read of an argument, and whether bytes are left over
module _ {A : Type 0} {r : Res A} {v : A} (s : List ℕ) (n : ℕ) (h : got v (from s n) ≡ r) where
  pub whole-left : n < length s → fault bytes_left_over ≡ whole r
  whole-left l = go (from s n) (length_from s n) ∙ ap whole h
    where
      go : (t : List ℕ) → length t ≡ length s - n → fault bytes_left_over ≡ whole (got v t)
      go [] e = absurd (omega arith)
      go (x ∷ t) e = refl

  pub whole-all : length s ≤ n → fine v ≡ whole r
  whole-all l = go (from s n) (length_from s n) ∙ ap whole h
    where
      go : (t : List ℕ) → length t ≡ length s - n → fine v ≡ whole (got v t)
      go [] e = refl
      go (x ∷ t) e = absurd (omega arith)

lawful-for : (k : Kind) (m : Mark) → Lawful (layout_for k m)
unfolding layout_for
lawful-for File m = lawful-layout m
lawful-for Correct m = lawful-layout m
lawful-for Withdraw m = lawful-got tt

body-taken : (k : Kind) (m : Mark) (s : List ℕ) → body_for k m s ≡ taken (layout_for k m) s
unfolding body_for taken layout_for
body-taken File m s = refl
body-taken Correct m s = refl
body-taken Withdraw m s = rw (sub_self (length s))

-- the body that was read is the change's own
pub body_own : (k : Kind) (x : Key) (s b t : List ℕ) → body_for k x.mark s ≡ got b t → body_of (made k x b) ≡ b
unfolding body_for
body_own File x s b t e = refl
body_own Correct x s b t e = refl
body_own Withdraw x s b t e = let p : [] ≡ b = cc in p

-- the fields that stand from b to n
pub record Body (s : List ℕ) (k : Kind) (x : Key) (b n : ℕ) : Type 0 where
  pub value : got (take (n - b) (from s b)) (from s n) ≡ body_for k x.mark (from s b)
  pub stands : Stands s n k x b

pub body_at : (s : List ℕ) (k : Kind) (x : Key) (b n : ℕ) → b ≤ length s → n ≤ length s → got tt (from s n) ≡ layout_for k x.mark (from s b) → Body s k x b n
unfolding taken
body_at s k x b n hb hn e =
    let p = (lawful-for k x.mark).local.reads (from s b) tt (from s n) (sym e) in
    let l : length (from s b) ≡ length p.part + length (from s n) = ap length p.whole ∙ length-append p.part (from s n) in
    let u = length_from s b in
    let v = length_from s n in
    let d : length (from s b) - length (from s n) ≡ n - b = omega arith in
    let q : taken (layout_for k x.mark) (from s b) ≡ got (take (n - b) (from s b)) (from s n) = rw (← e, d) in
    let w : body_for k x.mark (from s b) ≡ got (take (n - b) (from s b)) (from s n) = body-taken k x.mark (from s b) ∙ q in
    record { value = sym w; stands = record { low = omega arith; high = hn; own = body_own k x (from s b) _ (from s n) w } }

pub body-err : (s : List ℕ) (k : Kind) (m : Mark) (j : ℕ) → bad j ≡ layout_for k m s → bad j ≡ body_for k m s
unfolding taken
body-err s k m j e = sym (body-taken k m s ∙ bind-err (λ y t. got (take (length s - length t) s) t) e)

-- what is refused is what the change is refused for
pub read-refused : (s : List ℕ) (want : Wanted) (r : Result Read Refusal) (e : Refusal) → IsErrAnd r (λ x. x ≡ e) → bad (number_of e) ≡ change want s → ReadIs s want r
read-refused s want (Ok c) e h b = absurd h
read-refused s want (Err x) e h b = record { value = ap (λ (y : Refusal). bad (number_of y)) h ∙ b; placed = tt }

-- the whole of a change, one field after the other
module _ (s : List ℕ) (want : Wanted) where
  pub head-fault : {j : ℕ} → bad j ≡ head want s → bad j ≡ change want s
  unfolding change
  head-fault h = sym (bind-err (λ g t. rest g t) h)

  module _ {k : Kind} {m : Mark} (a : ℕ) (h : got (record { kind = k; mark = m }) (from s a) ≡ head want s) where
    pub hour-fault : {j : ℕ} → bad j ≡ hour (from s a) → bad j ≡ change want s
    unfolding change rest
    hour-fault e = sym (bind-ok (λ g t. rest g t) h ∙ bind-err _ e)

    module _ {o : ℕ} (b : ℕ) (p : got o (from s b) ≡ hour (from s a)) where
      pub name-fault : {j : ℕ} → bad j ≡ name_for k m (from s b) → bad j ≡ change want s
      unfolding change rest
      name-fault e = sym (bind-ok (λ g t. rest g t) h ∙ bind-ok _ p ∙ bind-err _ e)

      module _ {n : Name} (c : ℕ) (q : got n (from s c) ≡ name_for k m (from s b)) where
        pub fields-fault : {j : ℕ} → bad j ≡ layout_for k m (from s c) → bad j ≡ change want s
        unfolding change rest
        fields-fault {j} e = sym (bind-ok (λ g t. rest g t) h ∙ bind-ok _ p ∙ bind-ok _ q ∙ bind-err _ (body-err (from s c) k m j e))

        pub change-is : (d : ℕ) → c ≤ length s → d ≤ length s → n.len ≤ max_name → got tt (from s d) ≡ layout_for k m (from s c)
            → ReadIs s want (Ok (record { kind = k; key = record { mark = m; hour = o; name = n }; body = c; end = d }))
        unfolding change rest
        change-is d l i few e =
            let x = body_at s k (record { mark = m; hour = o; name = n }) c d l i e in
            record {
              value = sym (bind-ok (λ g t. rest g t) h ∙ bind-ok _ p ∙ bind-ok _ q ∙ bind-ok _ x.value);
              placed = (x.stands, few);
            }

-- for the faults of `read_change`
pub ruleset faults = (read-refused, head-fault, hour-fault, name-fault, fields-fault)
