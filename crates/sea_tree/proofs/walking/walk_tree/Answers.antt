use Rattle.sea_base.proofs.Calling.{call_then}
use Rattle.std.proofs.Common.{◌≡◌, List, [], ◌∷◌, ◌++◌, refl, sym, ap, subst, ◌∙◌, map}
use Rattle.std.proofs.lemmas.Result.{err_from_is_err_and}
use Rattle.sea_base.specs.declared.place.Laddr.{Laddr}
use Rattle.sea_base.proofs.Spaces.{only_read-trans}
use Rattle.sea_tree.specs.declared.walking.Walk.{Walk}
use Rattle.sea_tree.specs.Calls.{IsWalked}
use Rattle.sea_tree.proofs.Walked.{root_fault, empty_walked, under_fault, root_walked}
use Rattle.sea_base.specs.Space.{laid}
use Rattle.sea_tree.specs.Walk.{addresses}
use Rattle.sea_tree.proofs.Listed.{listed_none, listed_root}
use Rattle.sea_tree.proofs.walking.walk_tree.Goals as goal

pub returns-in_err-node-clause-fault : goal.returns-in_err-node-clause-fault
returns-in_err-node-clause-fault g c =
    let p = err_from_is_err_and c.from_residual.result c.from_residual.ensures.1 in
    rw (p.1, p.2) (root_fault c.args.root.0 (g.S.Space.seen c.args.space.now) (g.S.Space.seen c.root_at.new.space) (g.met.S.Space.sound c.root_at.new.space) c.in_err-node.ensures.reads c.in_err-node.field-0.0 c.in_err-node.ensures.fault)

pub returns-in_default-clause-walked : goal.returns-in_default-clause-walked
returns-in_default-clause-walked g c = λ store agrees.
    let none = rw c.in_default.is at c.in_ok-node.ensures.none in
    subst (λ (ns : List Laddr). IsWalked (laid (g.S.Space.seen c.args.space.now) store) c.args.root.0 0 (map (λ at. at.0) ns)) (sym c.new.ensures) (empty_walked c.args.root.0 (g.S.Space.seen c.args.space.now) (g.S.Space.seen c.root_at.new.space) (g.met.S.Space.sound c.root_at.new.space) c.in_ok-node.ensures.reads c.in_ok-node.ensures.known none store agrees)

pub returns-clause-reads : goal.returns-clause-reads
returns-clause-reads g c = only_read-trans c.in_ok-node.ensures.reads c.walk_below.ensures.reads

pub returns-in_err-walk_below-clause-fault : goal.returns-in_err-walk_below-clause-fault
returns-in_err-walk_below-clause-fault g c =
    let p = err_from_is_err_and c.from_residual-in_err-walk_below.result c.from_residual-in_err-walk_below.ensures.1 in
    rw (p.1, p.2) (under_fault c.args.root.0 (g.S.Space.seen c.args.space.now) (g.S.Space.seen c.root_at.new.space) (g.met.S.Space.sound c.root_at.new.space) c.in_ok-node.ensures.reads c.in_ok-node.ensures.known c.in-Some.node.level c.in-Some.node.entries (rw c.in-Some.is at c.in_ok-node.ensures.node) (g.S.Space.seen c.walk_below.new.space) c.walk_below.ensures.reads c.in_err-walk_below.field-0.0 c.in_err-walk_below.ensures.fault)

pub returns-clause-walked : goal.returns-clause-walked
returns-clause-walked g c =
    let pushed : Walk = record { pairs = 0; nodes = c.push.new.self } in
    let one : c.push.new.self ≡ c.args.root ∷ [] = c.in_ok-push.ensures.ok ∙ ap (λ (ns : List Laddr). ns ++ c.args.root ∷ []) c.new.ensures in
    root_walked c.args.root.0 (g.S.Space.seen c.args.space.now) (g.S.Space.seen c.root_at.new.space) (g.met.S.Space.sound c.root_at.new.space) c.in_ok-node.ensures.reads c.in_ok-node.ensures.known c.in-Some.node.level c.in-Some.node.entries (rw c.in-Some.is at c.in_ok-node.ensures.node) (g.S.Space.seen c.walk_below.new.space) c.walk_below.ensures.reads c.args.root pushed c.walk_below.new.walk refl refl one c.in_ok-walk_below.ensures.adds

pub returns-in_err-walk_below-clause-reads : goal.returns-in_err-walk_below-clause-reads
returns-in_err-walk_below-clause-reads g c = only_read-trans c.in_ok-node.ensures.reads c.walk_below.ensures.reads

pub returns-in_err-walk_below-clause-call : goal.returns-in_err-walk_below-clause-call
returns-in_err-walk_below-clause-call g c =
    let p = err_from_is_err_and c.from_residual-in_err-walk_below.result c.from_residual-in_err-walk_below.ensures.1 in
    rw (p.1, p.2) (call_then g.S.Space g.met.S.Space.frame c.in_ok-node.ensures.call c.in_err-walk_below.ensures.call)

pub returns-clause-call : goal.returns-clause-call
returns-clause-call g c = call_then g.S.Space g.met.S.Space.frame c.in_ok-node.ensures.call c.in_ok-walk_below.ensures.call

pub returns-clause-listed : goal.returns-clause-listed
returns-clause-listed g c = listed_root c.args.root.0 (addresses c.walk_below.new.walk) (g.S.Space.seen c.args.space.now) (g.S.Space.seen c.root_at.new.space) (g.S.Space.seen c.walk_below.new.space) c.in_ok-node.ensures.one c.in_ok-walk_below.ensures.listed

pub returns-in_default-clause-listed : goal.returns-in_default-clause-listed
returns-in_default-clause-listed g c = listed_root c.args.root.0 _ (g.S.Space.seen c.args.space.now) (g.S.Space.seen c.root_at.new.space) (g.S.Space.seen c.root_at.new.space) c.in_ok-node.ensures.one (listed_none _ (g.S.Space.seen c.root_at.new.space))
