-- Demand 1: what a call is told is decided by the first of its checks that fails.
use Rattle.std.specs.Prelude.{ℕ, zero, suc, ◌+◌, ◌≤◌, ◌<◌, ◌≡◌, Bool, cond, not, ◌&&◌, length, take, ltb, leb}
use Rattle.std.proofs.Math.Path.{refl, subst⁻¹}
use Rattle.std.proofs.Common.{ap, ap₂, ◌∙◌, subst, arith, List, [], ◌∷◌}
use Rattle.std.proofs.Math.Bool.{true, false}
use Rattle.laws.specs.Sums.{every}
use Rattle.money.specs.Units.{day_hours}
use Rattle.book.specs.Layer.{Key, Rec, Im, Ex, Change, filed, corrected, withdrawn, write, Input, fine, fault, parse, begins, take_back_bytes, close_bytes, limit_of, reversal, File, Correct, Withdraw, Wanted, Any, Only}
use Rattle.book.specs.laws.LayerLaws.{parse-fault}
use Rattle.book.specs.Layer.{Asked, got, bad, key_asked, ask_hour, ask_hour_of, ask_unit, ask_failure}
use Rattle.book.specs.laws.LayerLaws.{ask-fault, ask_hour-fault, ask_hour_of-fault, ask_unit-fault, ask_failure-fault}
use Rattle.book.specs.declared.book.Book.{Book}
use Rattle.book.specs.ByName.{by_name}
use Rattle.book.specs.Amounts.{Pick, is, nil, pick, HourPricing, priced, unpriced, absent, payable, unit_at, price_of, hour_key, guarantees_at, guarantees_of, unit_day_of, day_total, charge_at, charge_of}
use Rattle.book.specs.Register.{max_changes, Reg, standing, stands, count, capped, write_all, refusal, Call, file, correct, withdraw, take_back, close, change, ask, bare_take_back, bare_close}
use Rattle.book.specs.Register.{place_of, keyed, Question, record_of, count_of, free_bytes, hour_guarantees, day_of, failure_charge, answer, Reply, refused}
use Rattle.book.specs.Register.{unit_day, Step, answered, becomes, step_of, listed, judged, taken_back, closing, shorter, unless-closed, after}
use Rattle.book.specs.Meaning.{Load, belongs, mismatched, load, Valid, leaving, stepped, outcome, Meets}
use Rattle.book.specs.Session.{Shows}
use Rattle.book.specs.laws.PlaceLaws.{place-shows}
use Rattle.book.specs.laws.CallLaws.{unmoved, called-long}
use Rattle.book.specs.laws.LoadLaws.{loaded-from, loaded-valid, load-whole}
use Rattle.book.specs.laws.ReplayLaws.{called-valid}
use Rattle.demands.specs.Checks.{Check, ◌gives◌, first_fault, read, record_checks, none, back_checks, close_checks, key_first}
use Rattle.demands.specs.Checks.{missing, hour_checks, day_checks, charge_checks, question_checks, call_checks, checks_over, checks}
use Rattle.demands.specs.Demands.{Taken, IsAnswer, Done, Demand1}

-- a change: it becomes another list where no check fails
abbrev Judged : ℕ → Step → Type 0
Judged zero (becomes g) = Unit {0}
Judged zero (answered r) = ⊥
Judged (suc n) st = st ≡ answered (refused (suc n))

-- a question
abbrev Told : ℕ → Reply → Type 0
Told zero r = IsAnswer r
Told (suc n) r = r ≡ refused (suc n)

record-judged : (g : Reg) (lent : ℕ) (c : Change) → Judged (first_fault (record_checks g lent c)) (listed (fine c) lent g)
unfolding refusal
record-judged g lent (filed r) =
    go g.closed (stands r.key (standing g.list)) (ltb (count r.key (standing g.list)) (limit_of r.key)) (ltb (length g.list) max_changes)
    (leb (length (write_all g.list) + length (write (filed r))) (capped lent))
  where
    go : (a b c d e : Bool) → Judged (first_fault ((a gives 9) ∷ (b gives 10) ∷ (not c gives 12) ∷ (not d gives 13) ∷ (not e gives 13) ∷ []))
        (cond a (answered (refused 9)) (judged (filed r) g (cond b 10 (cond c (cond d (cond e 0 13) 13) 12))))
    go true b c d e = refl
    go false true c d e = refl
    go false false false d e = refl
    go false false true false e = refl
    go false false true true false = refl
    go false false true true true = tt
record-judged g lent (corrected r) =
    go g.closed (stands r.key (standing g.list)) (ltb (length g.list) max_changes)
    (leb (length (write_all g.list) + length (write (corrected r))) (capped lent))
  where
    go : (a b d e : Bool) → Judged (first_fault ((a gives 9) ∷ (not b gives 11) ∷ (not d gives 13) ∷ (not e gives 13) ∷ []))
        (cond a (answered (refused 9)) (judged (corrected r) g (cond b (cond d (cond e 0 13) 13) 11)))
    go true b d e = refl
    go false false d e = refl
    go false true false e = refl
    go false true true false = refl
    go false true true true = tt
record-judged g lent (withdrawn k) =
    go g.closed (stands k (standing g.list)) (ltb (length g.list) max_changes) (leb (length (write_all g.list) + length (write (withdrawn k))) (capped lent))
  where
    go : (a b d e : Bool) → Judged (first_fault ((a gives 9) ∷ (not b gives 11) ∷ (not d gives 13) ∷ (not e gives 13) ∷ []))
        (cond a (answered (refused 9)) (judged (withdrawn k) g (cond b (cond d (cond e 0 13) 13) 11)))
    go true b d e = refl
    go false false d e = refl
    go false true false e = refl
    go false true true false = refl
    go false true true true = tt

listed-judged : (want : Wanted) (s : List ℕ) (lent : ℕ) (g : Reg) → Judged (first_fault (read (parse want s) (record_checks g lent))) (listed (parse want s) lent g)
listed-judged want s lent g = go (parse want s) refl
  where
    go : (i : Input Change) → parse want s ≡ i → Judged (first_fault (read i (record_checks g lent))) (listed i lent g)
    go (fault zero) e = absurd (parse-fault want s zero e refl)
    go (fault (suc n)) e = refl
    go (fine c) e = record-judged g lent c

back-judged : (m lent : ℕ) (g : Reg) → Judged (first_fault (back_checks g m)) (taken_back m lent g)
back-judged m lent g = go m g.closed g.list
  where
    go : (n : ℕ) (b : Bool) (l : List Change)
        → Judged (first_fault (back_checks (record { list = l; closed = b }) n)) (unless-closed n (record { list = l; closed = b }) (shorter b l))
    go zero true l = refl
    go zero false [] = refl
    go zero false (c ∷ l) = tt
    go (suc n) b l = refl

close-judged : (m lent : ℕ) (g : Reg) → Judged (first_fault (close_checks g m)) (closing m lent g)
close-judged m lent g = go m g.closed
  where
    go : (n : ℕ) (b : Bool) → Judged (first_fault (close_checks (record { list = g.list; closed = b }) n))
        (unless-closed n (record { list = g.list; closed = b }) (becomes (record { list = g.list; closed = true })))
    go zero true = refl
    go zero false = tt
    go (suc n) b = refl

any-judged : (s : List ℕ) (lent : ℕ) (g : Reg) → Judged (first_fault (call_checks (change s) lent g)) (step_of (change s) lent g)
any-judged s lent g = go (begins take_back_bytes s) (begins close_bytes s)
  where
    go : (a b : Bool) → Judged
        (first_fault (cond a (back_checks g (bare_take_back s)) (cond b (close_checks g (bare_close s)) (read (parse Any s) (record_checks g lent)))))
        (cond a (taken_back (bare_take_back s)) (cond b (closing (bare_close s)) (listed (parse Any s))) lent g)
    go true b = back-judged (bare_take_back s) lent g
    go false true = close-judged (bare_close s) lent g
    go false false = listed-judged Any s lent g

-- ---- questions

keyed-told : (x : Asked) → ((n : ℕ) → x ≡ bad n → 0 < n) → (f : Key → Reply) (cs : Key → List Check) → ((k : Key) → Told (first_fault (cs k)) (f k))
    → Told (first_fault (key_first x cs)) (keyed x f)
keyed-told (bad zero) h f cs t = absurd (omega (arith, h zero refl))
keyed-told (bad (suc n)) h f cs t = refl
keyed-told (got k rest) h f cs t = t k

module _ (lent : ℕ) (g : Reg) where
  abbrev rs : List Rec
  rs = standing g.list

  place-told : (k : Key) → Told (first_fault ((absent (pick k rs) gives 11) ∷ [])) (place_of k g.list)
  place-told k = go (pick k (standing g.list)) (place-shows k g.list)
    where
      go : (p : Pick) → Shows p (write_all g.list) (place_of k g.list) → Told (first_fault ((absent p gives 11) ∷ [])) (place_of k g.list)
      go (is x) w = subst⁻¹ IsAnswer w.answer tt
      go nil w = w

  hour-told : (k : Key) → Told (first_fault (hour_checks rs k)) (guarantees_of rs (price_of rs) k.hour)
  unfolding guarantees_of
  hour-told k = go (price_of rs k.hour) (by_name (hour_key Im k.hour) rs) (by_name (hour_key Ex k.hour) rs)
    where
      go : (p : HourPricing) (im es : List Rec) → Told (first_fault (((not (none im) && missing p) gives 15) ∷ [])) (guarantees_at p im es)
      go p [] es = tt
      go unpriced (i ∷ im) es = refl
      go (priced p) (i ∷ im) es = tt

  day-told : (k : Key) → Told (first_fault (day_checks rs k)) (unit_day_of k rs (price_of rs))
  unfolding unit_day_of
  day-told k = go (every day_hours (λ (j : ℕ). absent (unit_at k rs j))) (every day_hours (λ (j : ℕ). payable (unit_at k rs j) (price_of rs (1 + j))))
    where
      go : (a b : Bool) → Told (first_fault ((a gives 11) ∷ (not b gives 15) ∷ []))
          (cond a (refused 11) (cond b (unit_day (day_total k rs (price_of rs)) (reversal (day_total k rs (price_of rs)))) (refused 15)))
      go true b = refl
      go false true = tt
      go false false = refl

  charge-told : (k : Key) → Told (first_fault (charge_checks rs k)) (charge_of k rs (price_of rs))
  unfolding charge_of
  charge-told k = go (pick k rs) (price_of rs k.hour)
    where
      go : (x : Pick) (p : HourPricing) → Told (first_fault ((absent x gives 11) ∷ (missing p gives 15) ∷ [])) (charge_at x p)
      go nil p = refl
      go (is r) unpriced = refl
      go (is r) (priced p) = tt

  question-told : (q : Question) → Told (first_fault (question_checks q rs)) (answer q lent g)
  question-told (record_of m h n) = keyed-told (key_asked m h n) (ask-fault m h n) _ _ place-told
  question-told (count_of m h) = keyed-told (ask_hour m h) (ask_hour-fault m h) _ _ (λ k. tt)
  question-told free_bytes = tt
  question-told (hour_guarantees h) = keyed-told (ask_hour_of Im h) (ask_hour_of-fault Im h) _ _ hour-told
  question-told (day_of n) = keyed-told (ask_unit n) (ask_unit-fault n) _ _ day-told
  question-told (failure_charge m h n) = keyed-told (ask_failure m h n) (ask_failure-fault m h n) _ _ charge-told

-- ---- demand 1

step-of : (call : Call) (b : Book) (s : List ℕ) (b' : Book) (r : Reply) (s' : List ℕ) → Meets call b s b' r s' → (st : Step)
    → stepped (step_of call) b s (load b s) ≡ st
    → (b' ≡ (leaving b s st).book) × (r ≡ (leaving b s st).answer) × (take (length (leaving b s st).kept) s' ≡ (leaving b s st).kept)
unfolding outcome
step-of call b s b' r s' m st e = (
  m.book ∙ ap (λ (x : Step). (leaving b s x).book) e,
  m.answer ∙ ap (λ (x : Step). (leaving b s x).answer) e,
  subst (λ (x : Step). take (length (leaving b s x).kept) s' ≡ (leaving b s x).kept) e m.bytes,
)

-- a call that is told a number keeps book and bytes
kept : (call : Call) (b : Book) (s : List ℕ) (b' : Book) (r : Reply) (s' : List ℕ) → Meets call b s b' r s'
    → (a : Reply) → stepped (step_of call) b s (load b s) ≡ answered a → (r ≡ a) × (b' ≡ b) × (s' ≡ s)
kept call b s b' r s' m a e = let w = step-of call b s b' r s' m (answered a) e in (w.1, w.0, unmoved s s' m.size w.2)

module _ (call : Call) (b : Book) (s : List ℕ) (b' : Book) (r : Reply) (s' : List ℕ) (m : Meets call b s b' r s') where
  abbrev Says : ℕ → Type 0
  Says n = (r ≡ refused n) × (b' ≡ b) × (s' ≡ s)

  abbrev Verdict : ℕ → Type 0
  Verdict zero = Done call b s b' r s'
  Verdict (suc n) = Says (suc n)

  same : b' ≡ b → s' ≡ s → (q : Question) → outcome (step_of (ask q)) b' s' ≡ outcome (step_of (ask q)) b s
  same e f q = ap₂ (λ (x : Book) (y : List ℕ). outcome (step_of (ask q)) x y) e f

  demanded : Verdict (first_fault (checks call b s)) → Demand1 call b s b' r s'
  demanded v = record {
    allowed = λ e. subst Verdict e v;
    refuses = λ n e. (subst Verdict e v).0;
    asked-again = λ n e q. same (subst Verdict e v).1 (subst Verdict e v).2 q;
    remains = λ n e. ((subst Verdict e v).1, (subst Verdict e v).2);
  }

  module _ (l : List Change) (e : load b s ≡ belongs l) where
    abbrev g : Reg
    g = record { list = l; closed = b.closed }

    step_is : (st : Step) → step_of call (length s) g ≡ st → stepped (step_of call) b s (load b s) ≡ st
    step_is st f = ap (stepped (step_of call) b s) e ∙ f

    next-valid : (h : Reg) → step_of call (length s) g ≡ becomes h → Valid h.list
    next-valid h f =
        let x = loaded-from b s l e in
        let p : x.list ≡ l = cc (x.is, e) in
        subst (λ (st : Step). Valid (after st g).list)
        (called-long call (length s) g (subst (λ (y : List Change). length (write_all y) ≤ length s) p (omega (arith, x.within, x.size))) ∙ f)
        (called-valid call (length s) g (loaded-valid b s l e))

    taken : (h : Reg) → step_of call (length s) g ≡ becomes h → Taken call b s b' r s'
    taken h f =
        let w = step-of call b s b' r s' m (becomes h) (step_is (becomes h) f) in
        record {
          answer = w.1;
          before = l;
          stood = e;
          next = h;
          step = f;
          book = w.0;
          holds = ap (λ (x : Book). load x s') w.0 ∙ load-whole h s' (next-valid h f) w.2;
        }

    changed : (Taken call b s b' r s' → Done call b s b' r s') → Judged (first_fault (call_checks call (length s) g)) (step_of call (length s) g)
        → Verdict (first_fault (call_checks call (length s) g))
    changed d = go (first_fault (call_checks call (length s) g)) (step_of call (length s) g) refl
      where
        go : (n : ℕ) (st : Step) → step_of call (length s) g ≡ st → Judged n st → Verdict n
        go zero (becomes h) f j = d (taken h f)
        go zero (answered a) f j = absurd j
        go (suc n) st f j = kept call b s b' r s' m (refused (suc n)) (step_is st f ∙ j)

module _ (b : Book) (s : List ℕ) (b' : Book) (r : Reply) (s' : List ℕ) where
  question-settled : (q : Question) (m : Meets (ask q) b s b' r s') (l : List Change) → load b s ≡ belongs l → (n : ℕ)
      → Told n (answer q (length s) (record { list = l; closed = b.closed })) → Verdict (ask q) b s b' r s' m n
  question-settled q m l e n t = go n t
      (kept (ask q) b s b' r s' m (answer q (length s) (record { list = l; closed = b.closed })) (ap (stepped (step_of (ask q)) b s) e))
    where
      go : (n : ℕ) → Told n (answer q (length s) (record { list = l; closed = b.closed }))
          → (r ≡ answer q (length s) (record { list = l; closed = b.closed })) × (b' ≡ b) × (s' ≡ s) → Verdict (ask q) b s b' r s' m n
      go zero t w = record { is-answer = subst⁻¹ IsAnswer w.0 t; before = l; stood = e; answer = w.0; book = w.1; bytes = w.2 }
      go (suc n) t w = (w.0 ∙ t, w.1, w.2)

  list-settled : (call : Call) (m : Meets call b s b' r s') (l : List Change) (e : load b s ≡ belongs l)
      → Verdict call b s b' r s' m (first_fault (call_checks call (length s) (record { list = l; closed = b.closed })))
  list-settled (file c) m l e = changed (file c) b s b' r s' m l e (λ x. x) (listed-judged (Only File) c (length s) (record { list = l; closed = b.closed }))
  list-settled (correct c) m l e = changed (correct c) b s b' r s' m l e (λ x. x)
      (listed-judged (Only Correct) c (length s) (record { list = l; closed = b.closed }))
  list-settled (withdraw c) m l e = changed (withdraw c) b s b' r s' m l e (λ x. x)
      (listed-judged (Only Withdraw) c (length s) (record { list = l; closed = b.closed }))
  list-settled (take_back c) m l e = changed (take_back c) b s b' r s' m l e (λ x. x)
      (back-judged (bare_take_back c) (length s) (record { list = l; closed = b.closed }))
  list-settled (close c) m l e = changed (close c) b s b' r s' m l e (λ x. x) (close-judged (bare_close c) (length s) (record { list = l; closed = b.closed }))
  list-settled (change c) m l e = changed (change c) b s b' r s' m l e (λ x. x) (any-judged c (length s) (record { list = l; closed = b.closed }))
  list-settled (ask q) m l e = question-settled q m l e (first_fault (question_checks q (standing l)))
      (question-told (length s) (record { list = l; closed = b.closed }) q)

  -- the theorem: for every call, book and bytes
  pub demand1 : (call : Call) → Meets call b s b' r s' → Demand1 call b s b' r s'
  demand1 call m = demanded call b s b' r s' m (go (load b s) refl)
    where
      go : (x : Load) → load b s ≡ x → Verdict call b s b' r s' m (first_fault (checks_over call (length s) b.closed x))
      go mismatched e = kept call b s b' r s' m (refused 16) (ap (stepped (step_of call) b s) e)
      go (belongs l) e = list-settled call m l e
