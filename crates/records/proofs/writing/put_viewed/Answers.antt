use Rattle.std.specs.Prelude.{◌≡◌, ℕ, ◌-◌, length}
use Rattle.std.proofs.Common.{sym, ap, ◌∙◌, arith}
use Rattle.records.specs.tables.Viewed.{view_head, view_rest}
use Rattle.records.proofs.writing.PutViewed.{viewed-done, viewed-both}
use Rattle.records.proofs.writing.put_viewed.Goals as goal

pub returns-clause-log_after : goal.returns-clause-log_after
returns-clause-log_after c =
    let v = c.in_ok-view.view in
    let l : c.len-m.result ≡ length (view_head v) = c.len-m.ensures.value ∙ ap length c.head_of-head.ensures in
    let b : length c.args.s.now - (v.len - c.len-m.result) ≡ length c.args.s.now - view_rest v = ap (λ (k : ℕ). length c.args.s.now - (v.len - k)) l in
    rw c.in_ok-view.ensures.ok_part
    (viewed-done v c.args.at c.args.s.now c.args.log.now (sym c.if-not-is_view.ensures) (omega (arith, c.if-log-at.false, c.if-log-at-2.false)) _
    (viewed-both v c.args.at c.args.s.now c.args.log.now (length c.args.s.now - (v.len - c.len-m.result))
    c.as_slice.result.now (c.as_slice.ensures.value ∙ c.head_of-head.ensures) c.copy-next.ensures b c.copy.ensures)).1
