-- An hour's credits, told one after the other.
use Rattle.std.specs.Prelude.{◌≡◌, List, [], ◌∷◌, ℕ, ◌+◌, ◌≤◌, ◌<◌, ℤ, pos, length, get_or, drop}
use Rattle.std.proofs.Common.{sym, ap, ◌∙◌, add-one, drop-cons, drop_of_length-le}
use Rattle.book.specs.declared.book.Book.{Book}
use Rattle.book.specs.declared.answers.NamedAmount.{NamedAmount}
use Rattle.bridge.specs.Bridge.{stored, credit_sizes, credits_sizes, credits_amounts}

-- what stands past the end of a list: never met
abbrev pub no_amount : NamedAmount
no_amount = record { name = record { len = 0; bytes = [] }; ticks = record { 0 = pos 0 } }

module _ (b : Book) (lent : List ℕ) (h : ℕ) (cs : List NamedAmount) (sizes₀ : List ℕ) (amounts₀ : List ℤ) where
  -- what is still to be told after the first i
  pub record Telling (i : ℕ) (sizes : List ℕ) (amounts : List ℤ) : Type 0 where
    pub sizes-are : credits_sizes b lent h i (drop i cs) sizes ≡ credits_sizes b lent h 0 cs sizes₀
    pub amounts-are : credits_amounts i (drop i cs) amounts ≡ credits_amounts 0 cs amounts₀

  pub one_told : {i : ℕ} {sizes sizes' : List ℕ} {amounts amounts' : List ℤ} → Telling i sizes amounts → i < length cs
      → sizes' ≡ credit_sizes b lent h i (get_or cs i no_amount) sizes → amounts' ≡ stored amounts (i + 1) (get_or cs i no_amount).ticks.0
      → Telling (i + 1) sizes' amounts'
  unfolding credits_sizes credits_amounts
  one_told {i = i} {sizes = sizes} {amounts = amounts} t lt e f =
      let c = get_or cs i no_amount in
      let p : drop i cs ≡ c ∷ drop (i + 1) cs = drop-cons cs i no_amount lt ∙ ap (λ (m : ℕ). c ∷ drop m cs) (sym (add-one i)) in
      record {
        sizes-are = ap (credits_sizes b lent h (i + 1) (drop (i + 1) cs)) e ∙ sym (ap (λ (x : List NamedAmount). credits_sizes b lent h i x sizes) p) ∙
            t.sizes-are;
        amounts-are = ap (credits_amounts (i + 1) (drop (i + 1) cs)) f ∙ sym (ap (λ (x : List NamedAmount). credits_amounts i x amounts) p) ∙ t.amounts-are;
      }

  pub all_told : {i : ℕ} {sizes : List ℕ} {amounts : List ℤ} → Telling i sizes amounts → length cs ≤ i
      → (sizes ≡ credits_sizes b lent h 0 cs sizes₀) × (amounts ≡ credits_amounts 0 cs amounts₀)
  unfolding credits_sizes credits_amounts
  all_told {i = i} {sizes = sizes} {amounts = amounts} t le =
      let p : drop i cs ≡ [] = drop_of_length-le cs {i = i} le in (
        sym (ap (λ (x : List NamedAmount). credits_sizes b lent h i x sizes) p) ∙ t.sizes-are,
        sym (ap (λ (x : List NamedAmount). credits_amounts i x amounts) p) ∙ t.amounts-are,
      )
