use Rattle.std.proofs.Common.{ℕ, ap, ◌∙◌, arith}
use Rattle.std.proofs.lemmas.Result.{err_from_is_err_and}
use Rattle.sea_base.proofs.Calling.{call_then}
use Rattle.sea_ops.proofs.Makes.{meets_save, is_made, make_fails}
use Rattle.sea_ops.proofs.making.make.Goals as goal

pub returns-in_err-save-clause-failure : goal.returns-in_err-save-clause-failure
returns-in_err-save-clause-failure g c =
    let old = g.S.Space.seen c.args.space.now in
    let mid = g.S.Space.seen c.alloc.new.self in
    let new = g.S.Space.seen c.save.new.space in
    let p = err_from_is_err_and c.from_residual-in_err-save.result c.from_residual-in_err-save.ensures.1 in
    rw (p.1, p.2) (make_fails old mid new c.in_ok-base.ensures.given c.args.name.now c.in_err-save.field-0.0 c.in_err-save.ensures.next.0 c.in_err-save.ensures.failure)

pub returns-in_err-save-clause-call : goal.returns-in_err-save-clause-call
returns-in_err-save-clause-call g c =
    let p = err_from_is_err_and c.from_residual-in_err-save.result c.from_residual-in_err-save.ensures.1 in
    rw (p.1, p.2) (call_then g.S.Space g.met.S.Space.frame c.in_ok-base.ensures.call c.in_err-save.ensures.call)

pub returns-clause-call : goal.returns-clause-call
returns-clause-call g c = call_then g.S.Space g.met.S.Space.frame c.in_ok-base.ensures.call c.in_ok-save.ensures.call

pub returns-clause-made : goal.returns-clause-made
returns-clause-made g c =
    let old = g.S.Space.seen c.args.space.now in
    let mid = g.S.Space.seen c.alloc.new.self in
    let new = g.S.Space.seen c.save.new.space in
    let given = c.in_ok-base.ensures.given in
    let did = c.in_ok-save.ensures in
    record {
      notes = λ at found e. did.notes at found (given.reads at ∙ e);
      rises = omega (arith, given.next, did.next.0);
      makes = λ store next objects m none.
          is_made old mid new given store next objects m did.next.0 c.args.name.now c.new_onode-onode.result none (c.new_onode-onode.ensures.made ∙ ap (λ (n : ℕ). record { base = record { 0 = n }; size = 0; attrs = 0; keys = 0 }) c.in_ok-base.ensures.first) (omega (arith, given.next, c.requires.room)) (did.changed store m.formed.onodes (meets_save old mid new given store next objects m did.next.0)) did.footprint.own;
    }
