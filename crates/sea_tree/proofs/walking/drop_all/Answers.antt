use Rattle.std.proofs.Common.{◌∷◌, ◌≡◌, ℕ, List, take, get_or, map, inl, inr, sym, subst, ◌∙◌, arith}
use Rattle.std.proofs.lemmas.Result.{err_from_is_err_and}
use Rattle.sea_base.proofs.Calling.{call_then}
use Rattle.std.proofs.lemmas.List.{take_all}
use Rattle.sea_base.specs.declared.place.Laddr.{Laddr}
use Rattle.sea_base.specs.Space.{laid}
use Rattle.sea_base.proofs.Spaces.{agrees_before-writes}
use Rattle.sea_tree.specs.Calls.{IsWalked}
use Rattle.sea_tree.proofs.Doing.{Does-read}
use Rattle.sea_tree.proofs.Performing.{read_unchanged}
use Rattle.sea_tree.proofs.Walked.{Dropped, dropped_none, dropped_more, addresses_more, becomes_empty}
use Rattle.sea_tree.specs.Reads.{ReadsListed}
use Rattle.sea_tree.proofs.Holding.{Contains-cases}
use Rattle.sea_tree.proofs.Listed.{listed_writes}
use Rattle.sea_tree.proofs.walking.drop_all.Goals as goal

pub loop-at-init : goal.loop-at-init
loop-at-init g c = record {
  walked = λ store agrees. (c.in_ok-walk.walk.pairs, subst (λ (ns : List Laddr). IsWalked (laid (g.S.Space.seen c.args.space.now) store) c.args.root.0 c.in_ok-walk.walk.pairs (map (λ at. at.0) ns)) (sym c.items-at-items.ensures) (c.in_ok-walk.ensures.walked store agrees));
  listed = subst (λ (ns : List Laddr). ReadsListed (c.args.root.0 ∷ map (λ at. at.0) ns) (g.S.Space.seen c.args.space.now) (g.S.Space.seen c.walk_tree.new.space)) (sym c.items-at-items.ensures) c.in_ok-walk.ensures.listed;
  dropped = dropped_none (g.S.Space.seen c.args.space.now) (g.S.Space.seen c.walk_tree.new.space) c.in_ok-walk.ensures.reads;
  next = c.in_ok-walk.ensures.reads.next;
  call = c.in_ok-walk.ensures.call;
}

pub loop-at-preserved : goal.loop-at-preserved
loop-at-preserved g c =
    let before = c.loop-at.invariant in
    let w = c.in_ok-drop_at.ensures.gone.writes in
    let items : List Laddr = c.items-at-items.result.now in
    let none : Laddr = record { 0 = 0 } in
    let here : ℕ = (get_or items c.loop-at.at-index none).0 in
    record {
      walked = λ store agrees. before.walked store (agrees_before-writes w store agrees);
      listed = listed_writes here (c.args.root.0 ∷ map (λ at. at.0) items) (g.S.Space.seen c.args.space.now) (g.S.Space.seen c.loop-at.space) (g.S.Space.seen c.drop_at.new.self) before.listed c.in_ok-drop_at.ensures.gone;
      dropped = subst (λ (ns : List ℕ). Dropped ns (g.S.Space.seen c.args.space.now) (g.S.Space.seen c.drop_at.new.self)) (sym (addresses_more items c.loop-at.at-index none (omega (arith, c.loop-at-test.true)))) (dropped_more (map (λ at. at.0) (take c.loop-at.at-index items)) here (g.S.Space.seen c.args.space.now) (g.S.Space.seen c.loop-at.space) (g.S.Space.seen c.drop_at.new.self) before.dropped w);
      next = c.in_ok-drop_at.ensures.gone.writes.next ∙ before.next;
      call = call_then g.S.Space g.met.S.Space.frame before.call c.in_ok-drop_at.ensures.call;
    }

pub returns-clause-gone : goal.returns-clause-gone
returns-clause-gone g c = λ store content meets.
    let end = c.loop-at.invariant in
    let walked = end.walked store meets.agrees in
    let all : take c.loop-at.at-index c.items-at-items.result.now ≡ c.items-at-items.result.now = take_all c.loop-at.at-index c.items-at-items.result.now (omega (arith, c.loop-at-test.false)) in
    let dropped = subst (λ (ns : List Laddr). Dropped (map (λ at. at.0) ns) (g.S.Space.seen c.args.space.now) (g.S.Space.seen c.loop-at.space)) all end.dropped in
    becomes_empty store c.args.root.0 (g.S.Space.seen c.args.space.now) (g.S.Space.seen c.loop-at.space) content walked.0 (map (λ at. at.0) c.items-at-items.result.now) dropped walked.1 meets end.next

pub returns-clause-notes : goal.returns-clause-notes
returns-clause-notes g c = c.loop-at.invariant.dropped.reads

pub returns-in_err-drop_at-clause-call : goal.returns-in_err-drop_at-clause-call
returns-in_err-drop_at-clause-call g c =
    let p = err_from_is_err_and c.from_residual-in_err-drop_at.result c.from_residual-in_err-drop_at.ensures.1 in
    rw (p.1, p.2) (call_then g.S.Space g.met.S.Space.frame c.loop-at.invariant.call c.in_err-drop_at.ensures.call)

pub returns-clause-footprint : goal.returns-clause-footprint
returns-clause-footprint g c =
    let end = c.loop-at.invariant in
    let all : take c.loop-at.at-index c.items-at-items.result.now ≡ c.items-at-items.result.now = take_all c.loop-at.at-index c.items-at-items.result.now (omega (arith, c.loop-at-test.false)) in
    let dropped = subst (λ (ns : List Laddr). Dropped (map (λ at. at.0) ns) (g.S.Space.seen c.args.space.now) (g.S.Space.seen c.loop-at.space)) all end.dropped in
    record {
      whole = λ store agrees. (end.walked store agrees).1.tree;
      own = λ store at agrees changed. elim (dropped.changed at changed) [ inl was ↦ inl was | inr gone ↦ inr (((end.walked store agrees).1.nodes at).0 gone) ];
      within = λ q. elim (end.listed q) [
        | inl same ↦ inl same
        | inr here ↦ inr (λ store agrees. elim (Contains-cases c.args.root.0 (map (λ at. at.0) c.items-at-items.result.now) q here) [
          | inl same ↦ inl (sym same)
          | inr later ↦ inr (((end.walked store agrees).1.nodes q).0 later)
        ])
      ];
    }

pub returns-in_err-walk-clause-failure : goal.returns-in_err-walk-clause-failure
returns-in_err-walk-clause-failure g c =
    let p = err_from_is_err_and c.from_residual.result c.from_residual.ensures.1 in
    rw (p.1, p.2) (record { blames = c.in_err-walk.ensures.fault; unchanged = read_unchanged (Does-read c.in_err-walk.ensures.reads) c.in_err-walk.field-0.0 })
