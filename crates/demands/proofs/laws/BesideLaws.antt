-- `feed` is a list of calls for a change, and `charges` are the failure charges of an hour's keys.
use Rattle.std.specs.Prelude.{ℕ, zero, suc, ◌+◌, ◌<◌, ◌≡◌, refl, List, [], ◌∷◌, ◌++◌, map, Bool, true, cond, length, take, drop, replicate}
use Rattle.std.proofs.Common.{sym, ◌∙◌, subst, append_assoc, arith}
use Rattle.std.proofs.Math.Path.{ap}
use Rattle.laws.specs.Lists.{All}
use Rattle.book.specs.Layer.{Change, HourPrices, Mark, Rec, ask_hour_of, same_hour, fault_in}
use Rattle.book.specs.laws.LayerLaws.{hour-parts}
use Rattle.book.specs.ByName.{by_name}
use Rattle.book.specs.declared.book.Book.{Book}
use Rattle.book.specs.declared.feed.Fed.{Fed as Result}
use Rattle.book.specs.Amounts.{Pick, is, pick, HourPricing, ChargesReply, charged, no, charge_line, charges_at, charges_of, charge_at, charge_of, hour_key, price_of, priced}
use Rattle.book.specs.Register.{Reg, standing, write_all, change, Reply, refused, accepted, Step, answered, becomes, called, after, reply, Turn, run, replies_of}
use Rattle.book.specs.Meaning.{belongs, load, book_of, charges_keyed, hour_charges}
use Rattle.book.specs.Replies.{replied}
use Rattle.book.specs.Feed.{first_record, FeedReply, later, feed_on, fed, feeding}
use Rattle.book.specs.FeedPromise.{Feeds}
use Rattle.book.specs.laws.CallLaws.{Decided, decided-change}
use Rattle.book.specs.laws.LoadLaws.{load-whole, loaded-valid}
use Rattle.book.specs.laws.RegisterLaws.{New, valid-new, once-standing}
use Rattle.book.specs.laws.StandLaws.{all_map, all-by-name, own-pick}
use Rattle.demands.proofs.laws.ListLaws.{agreed}
use Rattle.demands.specs.Beside.{changing, then_others, record_turns, ending, after_input, ReadAsCalls, AsAsked, ChargesByKey}

-- ---- `feed`

record Made (ts us : List Turn) (f : FeedReply) : Type 0 where
  reg : run (us ++ ts) ≡ f.reg
  said : replies_of (us ++ ts) ≡ ending f.number (replicate f.count accepted ++ replies_of ts)

ending-above : (n : ℕ) (rs : List Reply) → 0 < n → refused n ∷ rs ≡ ending n rs
ending-above zero rs h = absurd (omega arith)
ending-above (suc n) rs h = refl

one_later : (n : ℕ) (rs : List Reply) → replicate n accepted ++ (accepted ∷ rs) ≡ accepted ∷ (replicate n accepted ++ rs)
one_later zero rs = refl
one_later (suc n) rs = ap (λ (x : List Reply). accepted ∷ x) (one_later n rs)

made : (n lent : ℕ) (ts : List Turn) (s : List ℕ) → Made ts (record_turns n lent (run ts) s) (fed n lent (run ts) s)
unfolding record_turns fed run replies_of
made zero lent ts s = record { reg = refl; said = refl }
made (suc n) lent ts [] = record { reg = refl; said = refl }
made (suc n) lent ts (b ∷ s) = go (made n lent (t ∷ ts) rest) (called (change p) lent (run ts)) refl (decided-change p lent (run ts))
  where
    p : List ℕ
    p = first_record (b ∷ s)

    t : Turn
    t = changing lent p

    rest : List ℕ
    rest = drop (length p) (b ∷ s)

    goes : (h : Reg) → called (change p) lent (run ts) ≡ becomes h → Made (t ∷ ts) (record_turns n lent h rest) (fed n lent h rest)
        → Made ts (record_turns n lent h rest ++ (t ∷ [])) (later 1 (length p) (fed n lent h rest))
    goes h e w =
        let f = fed n lent h rest in
        let a = append_assoc (record_turns n lent h rest) (t ∷ []) ts in
        let c : 1 + f.count ≡ suc f.count = omega arith in
        let q : replies_of (t ∷ ts) ≡ accepted ∷ replies_of ts = ap (λ (x : Step). reply x ∷ replies_of ts) e in
        record {
          reg = ap run a ∙ w.reg;
          said = ap replies_of a ∙ w.said
              ∙ ap (ending f.number)
              (ap (λ (x : List Reply). replicate f.count accepted ++ x) q ∙ one_later f.count (replies_of ts) ∙ ap
              (λ (k : ℕ). replicate k accepted ++ replies_of ts) (sym c));
        }

    go : Made (t ∷ ts) (record_turns n lent (run (t ∷ ts)) rest) (fed n lent (run (t ∷ ts)) rest)
        → (st : Step) → called (change p) lent (run ts) ≡ st → Decided (called (change p) lent (run ts))
        → Made ts (then_others t (λ (h : Reg). record_turns n lent h rest) st) (feed_on (run ts) p (b ∷ s) (fed n lent) st)
    go ih (answered r) e d =
        let w = subst Decided e d in
        record {
          reg = ap (λ (x : Step). after x (run ts)) e;
          said = ap (λ (x : Step). reply x ∷ replies_of ts) e ∙ ap (λ (x : Reply). x ∷ replies_of ts) w.is ∙ ending-above w.number (replies_of ts) w.above
              ∙ ap (λ (x : Reply). ending (replied x) (replies_of ts)) (sym w.is);
        }
    go ih (becomes h) e d =
        let k : run (t ∷ ts) ≡ h = ap (λ (x : Step). after x (run ts)) e in
        goes h e (subst (λ (g : Reg). Made (t ∷ ts) (record_turns n lent g rest) (fed n lent g rest)) k ih)

pub read-as-calls : (b : Book) (s input : List ℕ) (r : Result) (s' : List ℕ) → Feeds b s input r s' → ReadAsCalls b s input r s'
read-as-calls b s input r s' f ts rs log σ h =
    let a = agreed σ in
    let l : load b s ≡ belongs (run ts).list =
    ap (λ (x : Book). load x s) a.book ∙ load-whole (run ts) s a.valid (subst (λ (x : List ℕ). take (length x) s ≡ x) a.used h) in
    let open_is : b.closed ≡ (run ts).closed = ap (λ (x : Book). x.closed) a.book in
    let e = f.together (run ts).list l in
    let g : feeding (length s) (record { list = (run ts).list; closed = b.closed }) input ≡ feeding (length s) (run ts) input =
    ap (λ (x : Bool). feeding (length s) (record { list = (run ts).list; closed = x }) input) open_is in
    let m = made (length input) (length s) ts input in
    let i : (feeding (length s) (record { list = (run ts).list; closed = b.closed }) input).reg ≡ run (after_input ts (length s) input) = ap
    (λ (x : FeedReply). x.reg) g ∙ sym m.reg in
    record {
      book = e.book ∙ ap book_of i;
      used = subst (λ (x : Reg). take (length (write_all x.list)) s' ≡ write_all x.list) i e.bytes;
      answers = m.said ∙ (λ j. ending (number_is g e.number j) (replicate (count-is g e.count j) accepted ++ sym a.answers j));
    }
  where
    number_is : {x y : FeedReply} → x ≡ y → fault_in r.end ≡ x.number → y.number ≡ fault_in r.end
    number_is p q = sym (q ∙ ap (λ (z : FeedReply). z.number) p)

    count-is : {x y : FeedReply} → x ≡ y → r.count ≡ x.count → y.count ≡ r.count
    count-is p q = sym (q ∙ ap (λ (z : FeedReply). z.count) p)

-- ---- `charges`

lines_are : (p : HourPrices) (rs : List Rec) → charges_at (priced p) rs ≡ charged (map (charge_line p) rs)
lines_are p [] = refl
lines_are p (r ∷ rs) = refl

module _ (m : Mark) (h : ℕ) (l : List Change) (p : HourPrices) (e : price_of (standing l) h ≡ priced p) where
  as-asked : (r : Rec) → (pick r.key (standing l) ≡ is r) × (same_hour (hour_key m h) r.key ≡ true) → AsAsked l p r
  unfolding charge_of
  as-asked r w =
      ap (λ (x : Pick). charge_at x (price_of (standing l) r.key.hour)) w.0
      ∙ ap (λ (x : HourPricing). charge_at (is r) x) (ap (price_of (standing l)) (sym (hour-parts (hour_key m h) r.key w.1).1) ∙ e)

  all_asked : New l → All (AsAsked l p) (by_name (hour_key m h) (standing l))
  all_asked w = all_map as-asked (all-by-name (hour_key m h) (own-pick (standing l) (once-standing l w)))

pub charges-by-key : (b : Book) (s : List ℕ) (m : Mark) (h : ℕ) (c : ChargesReply) → c ≡ hour_charges m h (load b s) → ChargesByKey b s m h c
unfolding charges_of
charges-by-key b s m h c w = record {
  lines = λ l e f a p q.
      w ∙ ap (hour_charges m h) e ∙ ap (λ (x : Bool). cond x (charges_keyed l (ask_hour_of m h)) (no 2)) f ∙ ap (charges_keyed l) a
      ∙ ap (λ (x : HourPricing). charges_at x (by_name (hour_key m h) (standing l))) q ∙ lines_are p (by_name (hour_key m h) (standing l));
  each = λ l e p q. all_asked m h l p q (valid-new l (loaded-valid b s l e));
}
