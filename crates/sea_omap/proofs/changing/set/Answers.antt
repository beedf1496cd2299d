use Rattle.std.proofs.Common.{◌≡◌, ◌⊎◌, inl, inr, ◌+◌, ℕ, List, length, take, Bool, true, false, not, cond, Option, Some, None, is_some, is_none, sym, ap, subst, arith}
use Rattle.std.proofs.lemmas.List.{length-map, length-take}
use Rattle.std.proofs.lemmas.Result.{err_from_is_err_and}
use Rattle.sea_base.proofs.Calling.{call_then}
use Rattle.sea_node.specs.Entries.{Entry}
use Rattle.sea_omap.specs.Changes.{Change, ChangesKey, puts}
use Rattle.sea_omap.specs.Calls.{Counts}
use Rattle.sea_omap.proofs.Chains.{give_more}
use Rattle.sea_omap.proofs.Given.{key_gives}
use Rattle.sea_omap.proofs.Loops.{change_at, all_changes, counts_more, counts_few, fails_at, has_footprint, set_becomes}
use Rattle.sea_omap.proofs.changing.set.Goals as goal
use Rattle.sea_omap.proofs.changing.set.Goals.{then-is_none, else-is_none}

-- the change of one pair
abbrev this : Entry → Change
this item = (item.0, Some item.1)

counted : (found : Option (List ℕ)) (b : Bool) (m n : ℕ) → is_some found ≡ not b → (b ≡ true) × (m ≡ n + 1) ⊎ (b ≡ false) × (m ≡ n) → m ≡ n + cond (is_none found) 1 0
counted None b m n e (inl new) = new.1
counted None b m n e (inr old) = absurd (let f = old.0 in cc)
counted (Some value) b m n e (inl new) = absurd (let t = new.0 in cc)
counted (Some value) b m n e (inr old) = omega (arith, old.1)

pub returns-in_err-put-clause-failure : goal.returns-in_err-put-clause-failure
returns-in_err-put-clause-failure g c =
    let p = err_from_is_err_and c.from_residual.result c.from_residual.ensures.1 in
    let at = change_at this c.args.pairs.now c.items-key-items.result.now c.loop-key.key-index c.loop-key-item.result c.items-key-items.ensures c.loop-key-test.true c.loop-key-item.is in
    rw (p.1, p.2) (fails_at c.args.root.0 (puts c.args.pairs.now) c.loop-key.key-index (this c.loop-key-item.result) is_none c.loop-key.fresh (g.S.Space.seen c.args.space.now) (g.S.Space.seen c.loop-key.space) (g.S.Space.seen c.put.new.space) c.in_err-put.field-0.0
    at.0 (omega (arith, length-map c.args.pairs.now this)) at.1 c.loop-key.invariant.did c.in_err-put.ensures.failure)

pub returns-in_err-put-clause-call : goal.returns-in_err-put-clause-call
returns-in_err-put-clause-call g c =
    let p = err_from_is_err_and c.from_residual.result c.from_residual.ensures.1 in
    rw (p.1, p.2) (call_then g.S.Space g.met.S.Space.frame c.loop-key.invariant.call c.in_err-put.ensures.call)

pub overflow_add-fresh : goal.overflow_add-fresh
overflow_add-fresh g c =
    let few = counts_few c.args.root.0 (take c.loop-key.key-index (puts c.args.pairs.now)) is_none c.loop-key.fresh _ _ c.loop-key.invariant.did in
    omega (arith, few, length-take c.loop-key.key-index (puts c.args.pairs.now), length-map c.args.pairs.now this, ap length c.items-key-items.ensures)

pub loop-key-preserved : goal.loop-key-preserved
loop-key-preserved g c =
    let old = g.S.Space.seen c.args.space.now in
    let mid = g.S.Space.seen c.loop-key.space in
    let new = g.S.Space.seen c.put.new.space in
    let was = c.loop-key.invariant in
    let item = c.loop-key-item.result in
    let at = change_at this c.args.pairs.now c.items-key-items.result.now c.loop-key.key-index item c.items-key-items.ensures c.loop-key-test.true c.loop-key-item.is in
    let found = c.in_ok-put.field-0 in
    let did = c.in_ok-put.ensures in
    let form = did.form in
    let step : ChangesKey c.args.root.0 (this item) found mid new = record { changed = did.changed; form = form; footprint = did.footprint } in
    let more : c.if-is_none.fresh ≡ c.loop-key.fresh + cond (is_none found) 1 0 = elim c.if-is_none.branch [
      | then-is_none w ↦ counted found _ _ _ c.is_none.ensures (inl (w.if-is_none.true, w.fresh-is))
      | else-is_none w ↦ counted found _ _ _ c.is_none.ensures (inr (w.if-is_none.false, w.fresh-is))
    ] in
    record {
      did = counts_more c.args.root.0 (puts c.args.pairs.now) c.loop-key.key-index (this item) is_none c.loop-key.fresh c.if-is_none.fresh found old mid new at.0 at.1 was.did step more;
      given = give_more c.loop-key.key-index old mid new was.given (key_gives c.args.root.0 (this item).0 (this item).1 found mid new form);
      call = call_then g.S.Space g.met.S.Space.frame {fault = None} was.call did.call;
    }

pub returns-clause-changed : goal.returns-clause-changed
returns-clause-changed g c =
    let all = all_changes this c.args.pairs.now c.items-key-items.result.now c.loop-key.key-index c.items-key-items.ensures c.loop-key-test.false in
    let old = g.S.Space.seen c.args.space.now in
    let new = g.S.Space.seen c.loop-key.space in
    set_becomes c.args.root.0 c.args.pairs.now c.loop-key.fresh old new
    (subst (λ (cs : List Change). Counts c.args.root.0 cs is_none c.loop-key.fresh old new) all c.loop-key.invariant.did)

pub returns-clause-footprint : goal.returns-clause-footprint
returns-clause-footprint g c =
    let all = all_changes this c.args.pairs.now c.items-key-items.result.now c.loop-key.key-index c.items-key-items.ensures c.loop-key-test.false in
    let old = g.S.Space.seen c.args.space.now in
    let new = g.S.Space.seen c.loop-key.space in
    has_footprint c.args.root.0 (puts c.args.pairs.now) is_none c.loop-key.fresh (length c.args.pairs.now) old new (sym (length-map c.args.pairs.now this))
    (subst (λ (cs : List Change). Counts c.args.root.0 cs is_none c.loop-key.fresh old new) all c.loop-key.invariant.did)
