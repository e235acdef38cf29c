-- What a method's promise says of the call that has its number.
use Rattle.std.specs.Prelude.{ℕ, ◌≡◌, refl, List, Result, Ok, Err, MatchResult}
use Rattle.std.specs.Result.{IsOkAnd}
use Rattle.std.proofs.Common.{sym, ap, subst, ◌⊎◌, inl, inr}
use Rattle.book.specs.Layer.{Refusal}
use Rattle.book.specs.declared.book.Book.{Book}
use Rattle.book.specs.Register.{Call, change, failure_charge, ask, Reply}
use Rattle.book.specs.Meaning.{Meets, reply_by}
use Rattle.demands.specs.declared.Method.{Method}
use Rattle.demands.specs.declared.Method.TheVariants.{File, Correct, Withdraw, TakeBack, Close, HourGuarantees, RecordOf, CountOf, FreeBytes, DayOf, FailureCharge}
use Rattle.demands.specs.declared.Said.{Said}
use Rattle.demands.specs.Demands.{Demanded}
use Rattle.demands.specs.Script.{change_by, question_by, call_by, told_by, said_reply}
use Rattle.demands.proofs.laws.DemandLaws.{demanded}

-- ---- an answer is told as the value that it holds

pub told-as : {A : Type 0} (k : A → Said) (r : Result A Refusal) (s : Result Said Refusal) → MatchResult r (λ x. IsOkAnd s (λ y. y ≡ k x)) (λ e. s ≡ Err e)
    → reply_by (λ x. told_by (k x)) r ≡ said_reply s
told-as k (Ok x) (Ok y) h = ap told_by (sym h)
told-as k (Ok x) (Err e) h = absurd h
told-as k (Err e) s h = ap said_reply (sym h)

-- ---- a call by its method, or by one that is its number's

module _ {b b' : Book} {s s' : List ℕ} where
  -- the same call, told the same
  demanded-on : {call call' : Call} {r r' : Reply} → call ≡ call' → r ≡ r' → Demanded call b s b' r s' → Demanded call' b s b' r' s'
  demanded-on {call' = call'} {r = r} e t m =
      subst (λ (x : Reply). Demanded call' b s b' x s') t (subst (λ (x : Call). Demanded x b s b' r s') e m)

  pub change-made : {m n : Method} (rec : List ℕ) {r : Reply} → m ≡ n → Meets (change_by m rec) b s b' r s' → Demanded (change_by n rec) b s b' r s'
  change-made rec e w = demanded-on (ap (λ (m : Method). change_by m rec) e) refl (demanded _ _ _ _ _ _ w)

  pub question-put : {m n : Method} (mark : List ℕ) (h : ℕ) (name : List ℕ) {r t : Reply} → m ≡ n → r ≡ t
      → Meets (ask (question_by m mark h name)) b s b' r s' → Demanded (ask (question_by n mark h name)) b s b' t s'
  question-put mark h name e k w = demanded-on (ap (λ (m : Method). ask (question_by m mark h name)) e) k (demanded _ _ _ _ _ _ w)

  pub call-made : {m n : Method} (mark : List ℕ) (h : ℕ) (name : List ℕ) {r t : Reply} → m ≡ n → r ≡ t
      → Meets (call_by m mark h name) b s b' r s' → Demanded (call_by n mark h name) b s b' t s'
  call-made mark h name e k w = demanded-on (ap (λ (m : Method). call_by m mark h name) e) k (demanded _ _ _ _ _ _ w)

  -- a call that one of the two functions above makes
  pub call-of : {m n : Method} (made : Method → Call) (mark : List ℕ) (h : ℕ) (name : List ℕ) {r t : Reply} → m ≡ n → made m ≡ call_by m mark h name
      → r ≡ t → Demanded (made n) b s b' r s' → Demanded (call_by n mark h name) b s b' t s'
  call-of made mark h name e c k w = demanded-on (subst (λ (m : Method). made m ≡ call_by m mark h name) e c) k w

module _ (mark : List ℕ) (h : ℕ) (name : List ℕ) where
  pub question-is : (m : Method) → (m ≡ RecordOf) ⊎ ((m ≡ CountOf) ⊎ ((m ≡ FreeBytes) ⊎ (m ≡ FailureCharge)))
      → ask (question_by m mark h name) ≡ call_by m mark h name
  question-is m (inl e) = rw e
  question-is m (inr (inl e)) = rw e
  question-is m (inr (inr (inl e))) = rw e
  question-is m (inr (inr (inr e))) = rw e

  pub change-is : (m : Method) → (m ≡ HourGuarantees → ⊥) → (m ≡ RecordOf → ⊥) → (m ≡ CountOf → ⊥) → (m ≡ FreeBytes → ⊥) → (m ≡ DayOf → ⊥)
      → (m ≡ FailureCharge → ⊥) → change_by m name ≡ call_by m mark h name
  change-is HourGuarantees g r c f d x = absurd (g refl)
  change-is RecordOf g r c f d x = absurd (r refl)
  change-is CountOf g r c f d x = absurd (c refl)
  change-is FreeBytes g r c f d x = absurd (f refl)
  change-is DayOf g r c f d x = absurd (d refl)
  change-is FailureCharge g r c f d x = absurd (x refl)
  change-is m g r c f d x = refl

-- any other number is the change of any mark, or the question for a failure charge
pub other-change : (m : Method) (rec : List ℕ) → (m ≡ File → ⊥) → (m ≡ Correct → ⊥) → (m ≡ Withdraw → ⊥) → (m ≡ TakeBack → ⊥) → (m ≡ Close → ⊥)
    → change_by m rec ≡ change rec
other-change File rec f c w t k = absurd (f refl)
other-change Correct rec f c w t k = absurd (c refl)
other-change Withdraw rec f c w t k = absurd (w refl)
other-change TakeBack rec f c w t k = absurd (t refl)
other-change Close rec f c w t k = absurd (k refl)
other-change m rec f c w t k = refl

pub other-question : (m : Method) (mark : List ℕ) (h : ℕ) (name : List ℕ) → (m ≡ RecordOf → ⊥) → (m ≡ CountOf → ⊥) → (m ≡ FreeBytes → ⊥)
    → question_by m mark h name ≡ failure_charge mark h name
other-question RecordOf mark h name r c f = absurd (r refl)
other-question CountOf mark h name r c f = absurd (c refl)
other-question FreeBytes mark h name r c f = absurd (f refl)
other-question m mark h name r c f = refl
