-- A book and bytes that belong together, and the rows of their changes, are a log with its rows.
use Rattle.std.specs.Prelude.{◌≡◌, ℕ, ◌≤◌, List, [], Bool, length, take}
use Rattle.std.proofs.Common.{sym, ap, ◌∙◌, subst, arith}
use Rattle.std.proofs.Math.Path.{subst⁻¹}
use Rattle.book.specs.Layer.{Change}
use Rattle.book.specs.declared.book.Book.{Book}
use Rattle.book.specs.Meaning.{Load, belongs, replay, load}
use Rattle.book.specs.laws.LoadLaws.{Loaded, load-long, loaded-from}
use Rattle.book.specs.tables.Rows.{Rows, Rowed, Logged, Log}
use Rattle.book.specs.declared.log.row.Row.{Row}

-- the used part is played
pub rowed-long : (b : Book) (s : List ℕ) {ok : Bool} {rows : List Row} → b.used ≤ length s → Rowed (replay b.changes [] (take b.used s)) ok rows
    → Rowed (load b s) ok rows
rowed-long b s {ok} {rows} le w = subst⁻¹ (λ (d : Load). Rowed d ok rows) (load-long b s le) w

module _ (b : Book) (s : List ℕ) {rows : List Row} where
  pub loaded-logged : (x : Loaded b s) → Rows rows x.list x.list → Logged s rows b.changes x.list
  loaded-logged x k = record {
    ruled = record { valid = x.valid; kept = k; count = x.count-is };
    within = omega (arith, x.within, x.size);
    bytes = ap (λ (m : ℕ). take m s) x.size ∙ sym x.bytes;
  }

  module _ (k : (l : List Change) × (load b s ≡ belongs l) × Rows rows l l) where
    pub logged-of : (l : List Change) → load b s ≡ belongs l → Logged s rows b.changes l
    logged-of l e =
        let x = loaded-from b s l e in
        let p : k.0 ≡ x.list = cc (k.1, x.is) in
        let q : x.list ≡ l = cc (x.is, e) in
        subst (λ (y : List Change). Logged s rows b.changes y) q (loaded-logged x (subst (λ (y : List Change). Rows rows y y) p k.2))

    pub log-of : Log s rows b.changes
    log-of = record { list = k.0; logged = logged-of k.0 k.1 }
