-- Of lists.
use Rattle.std.specs.Prelude.{ℕ, ◌≡◌, ◌<◌, List, [], ◌∷◌, replicate}
use Rattle.std.specs.Array.{AllOfLen}
use Rattle.std.proofs.Common.{sym, subst, ◌∙◌}
use Rattle.std.proofs.lemmas.List.{same_lists, length-replicate, get_or-replicate}

-- P holds of every element
pub data All {A : Type 0} (P : A → Type 0) : List A → Type 0 where
  done : All P []
  also : {r : A} {rs : List A} → P r → All P rs → All P (r ∷ rs)

-- n elements of which each is a are n times a: what the default of an array comes to
pub n-times : {A : Type 0} (P : A → Type 0) (a : A) → ((x : A) → P x → x ≡ a) → (n : ℕ) (xs : List A) → AllOfLen P xs n → xs ≡ replicate n a
n-times P a is n xs all = same_lists xs (replicate n a) (all.long ∙ sym (length-replicate n a))
    (λ k d q. let low : k < n = subst (λ m. k < m) all.long q in is _ (all.at k d low) ∙ sym (get_or-replicate n k a d low))
