use Rattle.std.proofs.Common.{◌≡◌, ◌++◌, List, ℕ, take, drop, sym, ap, ◌∙◌, append_assoc, arith}
use Rattle.std.proofs.lemmas.List.{take-append-drop, take_rest}
use Rattle.sea_top.proofs.Streams.{more_put}
use Rattle.sea_top.proofs.input.put_all.Goals as goal

pub loop-rest-preserved : goal.loop-rest-preserved
loop-rest-preserved g c =
    let inv = c.loop-rest.invariant in
    let rest = c.loop-rest.rest.now in
    let n = c.in_ok-count.count in
    let put = take n rest in
    let parts : c.args.bytes.now ≡ (inv.0 ++ put) ++ drop n rest = inv.1 ∙ ap (λ (r : List ℕ). inv.0 ++ r) (sym (take-append-drop n rest)) ∙ sym (append_assoc inv.0 put (drop n rest)) in (
      inv.0 ++ put,
      rw (take_rest rest n) parts,
      more_put inv.0 put (g.O.Sink.taken c.args.out.now) (g.O.Sink.taken c.loop-rest.out) (g.O.Sink.taken c.put.new.self) inv.2 c.in_ok-count.ensures.bytes,
      omega (arith, c.put.ensures.cause.later, inv.3),
    )
