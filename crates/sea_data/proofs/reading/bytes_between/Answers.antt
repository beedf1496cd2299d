use Rattle.std.proofs.Common.{◌-◌, ◌*◌, ◌/◌, inl, None, refl, ◌∙◌, arith}
use Rattle.std.specs.Prelude.{min}
use Rattle.std.proofs.lemmas.Result.{err_from_is_err_and}
use Rattle.sea_base.proofs.Calling.{call_none, call_then}
use Rattle.sea_base.proofs.Spaces.{only_read-refl, only_read-trans, agrees_before}
use Rattle.sea_base.specs.Space.{laid}
use Rattle.sea_data.proofs.Loops.{none_read, read_more, reads_more}
use Rattle.sea_data.proofs.reading.bytes_between.Goals as goal

pub returns-then-to-from-clause-bytes : goal.returns-then-to-from-clause-bytes
returns-then-to-from-clause-bytes g c store agrees =
    c.new-bytes.ensures.items ∙ none_read (laid (g.S.Space.seen c.args.space.now) store) c.args.onode.now.base.0 c.args.from (c.args.to - c.args.from) (omega arith)

pub loop-index-init : goal.loop-index-init
loop-index-init g c = record {
  count = omega (arith, c.new-bytes.ensures.len);
  bytes = λ store agrees. c.new-bytes.ensures.items ∙ none_read (laid (g.S.Space.seen c.args.space.now) store) c.args.onode.now.base.0 c.args.from (min (4096 * (c.args.from / 4096)) c.args.to - c.args.from) (omega arith);
  within = λ at. inl refl;
  reads = only_read-refl (g.S.Space.seen c.args.space.now);
  call = call_none g.S.Space g.met.S.Space.frame c.args.space.now c.requires.ready;
}

pub loop-index-preserved : goal.loop-index-preserved
loop-index-preserved g c =
    let was = c.loop-index.invariant in
    let reads = only_read-trans was.reads c.in_ok-push_part.ensures.one.only in
    record {
      count = omega (arith, c.in_ok-push_part.ensures.len, was.count);
      bytes = λ store agrees. read_more (g.S.Space.seen c.args.space.now) (g.S.Space.seen c.push_part.new.space) c.args.onode.now.base.0 c.args.from c.args.to c.loop-index.index c.address_of.result.0 c.of-part.result.place (c.of-part.result.to - c.of-part.result.from) c.loop-index.bytes.items c.push_part.new.bytes.items reads (g.met.S.Space.sound c.push_part.new.space) c.in_ok-push_part.ensures.known
          c.address_of.ensures c.of-part.ensures.place (omega arith) (omega arith) (omega arith) (omega arith) c.in_ok-push_part.ensures.pushed store agrees (was.bytes store (agrees_before c.in_ok-push_part.ensures.one.only agrees));
      within = reads_more (g.S.Space.seen c.args.space.now) (g.S.Space.seen c.loop-index.space) (g.S.Space.seen c.push_part.new.space) c.args.onode.now.base.0 c.args.from c.args.to c.loop-index.index c.address_of.result.0 c.address_of.ensures (omega arith, omega arith, omega arith) c.in_ok-push_part.ensures.one was.within;
      reads = reads;
      call = call_then g.S.Space g.met.S.Space.frame {fault = None} was.call c.in_ok-push_part.ensures.call;
    }

pub returns-in_err-push_part-clause-call : goal.returns-in_err-push_part-clause-call
returns-in_err-push_part-clause-call g c =
    let p = err_from_is_err_and c.from_residual.result c.from_residual.ensures.1 in
    rw (p.1, p.2) (call_then g.S.Space g.met.S.Space.frame c.loop-index.invariant.call c.in_err-push_part.ensures.call)
