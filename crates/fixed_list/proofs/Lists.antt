-- Facts on a list with blanks behind it.
use Rattle.std.proofs.Common.{◌≡◌, ℕ, ◌+◌, ◌-◌, ◌<◌, ◌≤◌, List, [], ◌∷◌, ◌++◌, length, take, drop, set, insert, replicate, sym, ap, ◌∙◌, arith, append_assoc, length-take-le, length-set, length-drop, drop-set-lt}
use Rattle.std.proofs.Math.Seq.{take-set-lt}
use Rattle.std.proofs.lemmas.List.{take-append-drop, drop_at, drop-drop, drop-replicate, drop-take, take-take, take_more_set, set-append_left}
use Rattle.std.proofs.lemmas.List.Edits.{take-paste, drop-paste}
use Rattle.std.specs.List.{copy_within}
use Rattle.fixed_list.specs.FixedList.{with_blanks}

module _ {T : Type 0} (blank : T) (places : ℕ) where
  -- what stands behind the first n
  drop_blanks : (cells : List T) (n : ℕ) → n ≤ length cells
      → cells ≡ with_blanks blank places (take n cells) → drop n cells ≡ replicate (places - n) blank
  drop_blanks cells n le is =
      let long = length-take-le n cells le in
      ap (drop n) is ∙ drop_at (take n cells) _ n long ∙ ap (λ k. replicate (places - k) blank) long

  -- and the other way round
  with_blanks_from_drop : (cells : List T) (n : ℕ) → n ≤ length cells
      → drop n cells ≡ replicate (places - n) blank → cells ≡ with_blanks blank places (take n cells)
  with_blanks_from_drop cells n le is =
      let long = length-take-le n cells le in
      sym (take-append-drop n cells)
      ∙ ap (λ rest. take n cells ++ rest) (is ∙ ap (λ k. replicate (places - k) blank) (sym long))

  -- one blank fewer
  drop_blanks_more : (cells : List T) (n : ℕ) → drop n cells ≡ replicate (places - n) blank
      → drop (n + 1) cells ≡ replicate (places - (n + 1)) blank
  drop_blanks_more cells n is =
      let fewer : places - n - 1 ≡ places - (n + 1) = omega arith in
      sym (drop-drop 1 n cells) ∙ ap (drop 1) is ∙ drop-replicate 1 (places - n) blank ∙ ap (λ k. replicate k blank) fewer

  -- a write to one of the first n + 1 leaves the blanks behind them
  pub with_blanks_after_set : (cells moved : List T) (n i : ℕ) (element : T) → length cells ≡ places → n < places
      → cells ≡ with_blanks blank places (take n cells) → length moved ≡ places
      → drop (n + 1) moved ≡ drop (n + 1) cells → i ≤ n
      → set moved i element ≡ with_blanks blank places (take (n + 1) (set moved i element))
  with_blanks_after_set cells moved n i element full room is kept behind le =
      let long = length-set moved i element in
      let blanks = drop_blanks_more cells n (drop_blanks cells n (omega arith) is) in
      with_blanks_from_drop (set moved i element) (n + 1) (omega arith)
      (drop-set-lt (n + 1) moved i element (omega arith) ∙ behind ∙ blanks)

module _ {T : Type 0} (cells : List T) (n i : ℕ) (le : i ≤ n) (room : n < length cells) where
  -- where the places from i on, moved up by one, end
  same_end : i + 1 + (n - i) ≡ n + 1
  same_end = omega arith

  pub drop-moved_up : (moved : List T) → moved ≡ copy_within cells i n (i + 1) → drop (n + 1) moved ≡ drop (n + 1) cells
  drop-moved_up moved is =
      let rest = length-drop i cells in
      let behind = drop-paste cells (i + 1) (drop i cells) (n - i) (omega arith) (omega arith) in
      ap (drop (n + 1)) is ∙ ap (λ k. drop k (copy_within cells i n (i + 1))) (sym same_end) ∙ behind ∙ ap (λ k. drop k cells) same_end

  -- the moved part is what stood behind i
  moved_part : take (n - i) (drop i cells) ≡ drop i (take n cells)
  moved_part =
      let whole : i + (n - i) ≡ n = omega arith in
      sym (drop-take i (n - i) cells) ∙ ap (λ k. drop i (take k cells)) whole

  take-moved_up : take (n + 1) (copy_within cells i n (i + 1)) ≡ take (i + 1) cells ++ drop i (take n cells)
  take-moved_up =
      let rest = length-drop i cells in
      let front = take-paste cells (i + 1) (drop i cells) (n - i) (omega arith) (omega arith) in
      ap (λ k. take k (copy_within cells i n (i + 1))) (sym same_end) ∙ front
      ∙ ap (λ xs. take (i + 1) cells ++ xs) moved_part

  -- a write over the place at i is then an insertion
  pub take-set_moved_up : (moved : List T) (element : T) → moved ≡ copy_within cells i n (i + 1)
      → take (n + 1) (set moved i element) ≡ insert (take n cells) i element
  take-set_moved_up moved element is =
      let cut = length-take-le (i + 1) cells (omega arith) in
      let head = sym (take-set-lt (i + 1) cells i element (omega arith))
      ∙ take_more_set cells i element (omega arith)
      ∙ ap (λ xs. xs ++ element ∷ []) (sym (take-take i n cells le)) in
      take-set-lt (n + 1) moved i element (omega arith)
      ∙ ap (λ xs. set xs i element) (ap (take (n + 1)) is ∙ take-moved_up)
      ∙ set-append_left (take (i + 1) cells) (drop i (take n cells)) i element (omega arith)
      ∙ ap (λ xs. xs ++ drop i (take n cells)) head
      ∙ append_assoc (take i (take n cells)) (element ∷ []) (drop i (take n cells))
