use Rattle.std.proofs.Common.{◌≡◌, ◌++◌, List, ℕ, take, drop, sym, ap, ◌∙◌, append_assoc, arith}
use Rattle.std.proofs.lemmas.List.{take-append-drop, take_rest}
use Rattle.sea_streams.proofs.Streams.{more_put}
use Rattle.sea_streams.proofs.printing.put_all.Goals as goal

pub loop-rest-preserved : goal.loop-rest-preserved
loop-rest-preserved g c =
    let inv = c.loop-rest.invariant in
    let rest = c.loop-rest.rest.now in
    let n = c.in_ok-count.count in
    let put = take n rest in
    let parts : c.args.bytes.now ≡ (inv.front ++ put) ++ drop n rest = inv.parts ∙ ap (λ (r : List ℕ). inv.front ++ r) (sym (take-append-drop n rest)) ∙ sym (append_assoc inv.front put (drop n rest)) in record {
      front = inv.front ++ put;
      parts = rw (take_rest rest n) parts;
      taken = more_put inv.front put (g.O.Sink.taken c.args.out.now) (g.O.Sink.taken c.loop-rest.out) (g.O.Sink.taken c.put.new.self) inv.taken c.in_ok-count.ensures.bytes;
      quiet = c.in_ok-count.ensures.faults ∙ inv.quiet;
    }
