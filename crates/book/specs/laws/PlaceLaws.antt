-- The place that the book answers for a key is where the record that stands is written.
use Rattle.std.specs.Prelude.{ℕ, ◌+◌, ◌-◌, ◌≤◌, ◌≡◌, refl, List, [], ◌∷◌, Bool, true, false, not, drop}
use Rattle.std.proofs.Common.{sym, ◌∙◌, arith}
use Rattle.std.proofs.Math.Path.{ap, subst⁻¹}
use Rattle.std.proofs.Math.Bool.{cond}
use Rattle.std.proofs.Math.ListN.{length, take, length-append, length-drop}
use Rattle.std.proofs.Math.Seq.{take-length, drop-append_seam, drop-append-add, take-append-le}
use Rattle.std.proofs.lemmas.List.{drop-append-le}
use Rattle.book.specs.Layer.{Key, Rec, Change, filed, corrected, withdrawn, key_of, kind_of, write, same, is_correction, is_withdrawal}
use Rattle.book.specs.laws.LayerLaws.{same-right, write-co}
use Rattle.book.specs.Register.{write_all, without, play, standing, stands, place, refused, written, place_of}
use Rattle.book.specs.tables.Tables.{survey}
use Rattle.book.specs.Session.{Shows}
use Rattle.book.specs.Amounts.{Pick, is, nil, pick}
use Rattle.book.specs.laws.RegisterLaws.{by-test, true≠false, survey-found}

pick-without : (k j : Key) (xs : List Rec) → same k j ≡ false → pick k (without j xs) ≡ pick k xs
unfolding pick without
pick-without k j [] h = refl
pick-without k j (x ∷ xs) h =
    by-test (same j x.key)
    (λ t. ap (λ (b : Bool). pick k (cond b (without j xs) (x ∷ without j xs))) t ∙ pick-without k j xs h
    ∙ sym (ap (λ (b : Bool). cond b (is x) (pick k xs)) (sym (same-right j x.key t k) ∙ h)))
    (λ t. ap (λ (b : Bool). pick k (cond b (without j xs) (x ∷ without j xs))) t ∙ ap (cond (same k x.key) (is x)) (pick-without k j xs h))

pick_other : (k : Key) (c : Change) (xs : List Rec) → same k (key_of c) ≡ false → pick k (play c xs) ≡ pick k xs
unfolding pick
pick_other k (filed r) xs h = ap (λ (b : Bool). cond b (is r) (pick k xs)) h
pick_other k (corrected r) xs h = ap (λ (b : Bool). cond b (is r) (pick k (without r.key xs))) h ∙ pick-without k r.key xs h
pick_other k (withdrawn j) xs h = pick-without k j xs h

-- a place in a log where the standing record of a key is written
pub record Written (k : Key) (l : List Change) (start len : ℕ) : Type 0 where
  pub what : Rec
  pub stands-so : pick k (standing l) ≡ is what
  pub inside : start + len ≤ length (write_all l)
  pub bytes : take len (drop start (write_all l)) ≡ write (filed what)

module _ (k : Key) (c : Change) (l : List Change) where
  -- a change of another key leaves it there
  written_on : (start len : ℕ) → same k (key_of c) ≡ false → Written k l start len → Written k (c ∷ l) start len
  unfolding write_all standing
  written_on start len h w =
      record {
        what = w.what;
        stands-so = pick_other k c (standing l) h ∙ w.stands-so;
        inside = omega (arith, w.inside, length-append (write_all l) (write c));
        bytes = ap (take len) (drop-append-le start (write_all l) (write c) (omega (arith, w.inside)))
            ∙ take-append-le len (drop start (write_all l)) (write c) (omega (arith, length-drop start (write_all l), w.inside)) ∙ w.bytes;
      }

-- the newest change of the key says where it is
newest : (k : Key) (c : Change) (l : List Change) → same k (key_of c) ≡ true → not (is_withdrawal (kind_of c)) ≡ true
    → Written k (c ∷ l) (cond (is_correction (kind_of c)) (length (write_all l) + 2) (length (write_all l)))
    (cond (is_correction (kind_of c)) (length (write c) - 2) (length (write c)))
unfolding write_all standing
newest k (filed r) l t f =
    record {
      what = r;
      stands-so = unfold pick in (ap (λ (b : Bool). cond b (is r) (pick k (standing l))) t);
      inside = omega (arith, length-append (write_all l) (write (filed r)));
      bytes = ap (take (length (write (filed r)))) (drop-append_seam (write_all l) (write (filed r))) ∙ take-length (write (filed r));
    }
newest k (corrected r) l t f =
    let w = write-co r in
    record {
      what = r;
      stands-so = unfold pick in (ap (λ (b : Bool). cond b (is r) (pick k (without r.key (standing l)))) t);
      inside = omega (arith, length-append (write_all l) (write (corrected r)), w.0);
      bytes = ap (take (length (write (corrected r)) - 2)) (drop-append-add (write_all l) (write (corrected r)) 2 ∙ w.1)
          ∙ ap (λ (n : ℕ). take n (write (filed r))) (let q : length (write (corrected r)) - 2 ≡ length (write (filed r)) = omega (arith, w.0) in q) ∙
          take-length (write (filed r));
    }
newest k (withdrawn j) l t f = true≠false f refl

pub survey-written : (k : Key) (l : List Change) → (survey k l).found ≡ true → Written k l (survey k l).start (survey k l).len
unfolding survey
survey-written k [] h = true≠false h refl
survey-written k (c ∷ l) h =
    by-test (same k (key_of c))
    (λ t. subst⁻¹ (λ (b : Bool). Written k (c ∷ l)
    (cond b (cond (is_correction (kind_of c)) (length (write_all l) + 2) (length (write_all l))) (survey k l).start)
    (cond b (cond (is_correction (kind_of c)) (length (write c) - 2) (length (write c))) (survey k l).len)) t
    (newest k c l t (sym (ap (λ (b : Bool). cond b (not (is_withdrawal (kind_of c))) (survey k l).found) t) ∙ h)))
    (λ t. subst⁻¹ (λ (b : Bool). Written k (c ∷ l)
    (cond b (cond (is_correction (kind_of c)) (length (write_all l) + 2) (length (write_all l))) (survey k l).start)
    (cond b (cond (is_correction (kind_of c)) (length (write c) - 2) (length (write c))) (survey k l).len)) t
    (written_on k c l (survey k l).start (survey k l).len t
    (survey-written k l (sym (ap (λ (b : Bool). cond b (not (is_withdrawal (kind_of c))) (survey k l).found) t) ∙ h))))

-- the register's place of a key is the surveyed one
place-newest : (c : Change) (q : ℕ) → written c q ≡ cond (not (is_withdrawal (kind_of c)))
    (place (cond (is_correction (kind_of c)) (q + 2) q) (cond (is_correction (kind_of c)) (length (write c) - 2) (length (write c)))) (refused 11)
place-newest (filed r) q = refl
place-newest (corrected r) q = let e : length (write (filed r)) ≡ length (write (corrected r)) - 2 = omega (arith, (write-co r).0) in ap (place (q + 2)) e
place-newest (withdrawn k) q = refl

pub survey-place : (k : Key) (l : List Change) → place_of k l ≡ cond (survey k l).found (place (survey k l).start (survey k l).len) (refused 11)
unfolding survey place_of
survey-place k [] = refl
survey-place k (c ∷ l) = go (same k (key_of c)) (survey-place k l)
  where
    q : ℕ
    q = length (write_all l)

    go : (b : Bool) → place_of k l ≡ cond (survey k l).found (place (survey k l).start (survey k l).len) (refused 11)
        → cond b (written c q) (place_of k l)
        ≡ cond (cond b (not (is_withdrawal (kind_of c))) (survey k l).found)
        (place (cond b (cond (is_correction (kind_of c)) (q + 2) q) (survey k l).start)
        (cond b (cond (is_correction (kind_of c)) (length (write c) - 2) (length (write c))) (survey k l).len)) (refused 11)
    go true ih = place-newest c q
    go false ih = ih

-- what does not stand is not picked
pub pick-none : (k : Key) (xs : List Rec) → stands k xs ≡ false → pick k xs ≡ nil
unfolding stands pick
pick-none k [] h = refl
pick-none k (x ∷ xs) h =
    by-test (same k x.key)
    (λ t. true≠false (ap (λ (b : Bool). cond b true (stands k xs)) t) h)
    (λ t. ap (λ (b : Bool). cond b (is x) (pick k xs)) t ∙ pick-none k xs (sym (ap (λ (b : Bool). cond b true (stands k xs)) t) ∙ h))

-- so the key question shows what stands
pub place-shows : (k : Key) (l : List Change) → Shows (pick k (standing l)) (write_all l) (place_of k l)
place-shows k l =
    by-test (survey k l).found
    (λ t. let w = survey-written k l t in
    subst⁻¹ (λ (p : Pick). Shows p (write_all l) (place_of k l)) w.stands-so
    (record {
      start = (survey k l).start;
      len = (survey k l).len;
      answer = survey-place k l ∙ ap (λ (b : Bool). cond b (place (survey k l).start (survey k l).len) (refused 11)) t;
      inside = w.inside;
      written = w.bytes;
    }))
    (λ t. subst⁻¹ (λ (p : Pick). Shows p (write_all l) (place_of k l)) (pick-none k (standing l) (sym (survey-found k l) ∙ t))
    (survey-place k l ∙ ap (λ (b : Bool). cond b (place (survey k l).start (survey k l).len) (refused 11)) t))
