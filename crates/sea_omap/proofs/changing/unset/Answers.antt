use Rattle.std.proofs.Common.{◌≡◌, ◌⊎◌, inl, inr, ◌+◌, ℕ, List, length, take, Bool, true, false, cond, Option, Some, None, MatchOption, is_some, sym, ap, subst, arith}
use Rattle.std.proofs.lemmas.List.{length-map, length-take}
use Rattle.std.proofs.lemmas.Result.{err_from_is_err_and}
use Rattle.sea_base.specs.Space.{Seen, OnlyRead}
use Rattle.sea_base.proofs.Calling.{call_then}
use Rattle.sea_tree.specs.Form.{HasForm}
use Rattle.sea_omap.specs.Changes.{Change, HasKeyForm, ChangesKey, removals}
use Rattle.sea_omap.specs.Calls.{Counts}
use Rattle.sea_omap.proofs.Chains.{give_more}
use Rattle.sea_omap.proofs.Given.{key_gives}
use Rattle.sea_omap.proofs.Loops.{change_at, all_changes, counts_more, counts_few, fails_at, has_footprint, unset_becomes}
use Rattle.sea_omap.proofs.changing.unset.Goals as goal
use Rattle.sea_omap.proofs.changing.unset.Goals.{then-is_some, else-is_some}

-- the change of one key
abbrev this : List ℕ → Change
this item = (item, None)

removal_form : (root : ℕ) (key : List ℕ) (found : Option (List ℕ)) (old new : Seen) → MatchOption found (OnlyRead old new) (λ value. HasForm root key None old new) → HasKeyForm root key None found old new
removal_form root key None old new form = form
removal_form root key (Some value) old new form = form

counted : (found : Option (List ℕ)) (b : Bool) (m n : ℕ) → b ≡ is_some found → (b ≡ true) × (m ≡ n + 1) ⊎ (b ≡ false) × (m ≡ n) → m ≡ n + cond (is_some found) 1 0
counted None b m n e (inl gone) = absurd (let t = gone.0 in cc)
counted None b m n e (inr absent) = omega (arith, absent.1)
counted (Some value) b m n e (inl gone) = gone.1
counted (Some value) b m n e (inr absent) = absurd (let f = absent.0 in cc)

pub returns-in_err-del-clause-failure : goal.returns-in_err-del-clause-failure
returns-in_err-del-clause-failure g c =
    let p = err_from_is_err_and c.from_residual.result c.from_residual.ensures.1 in
    let at = change_at this c.args.keys.now c.items-key-items.result.now c.loop-key.key-index c.key-item.result c.items-key-items.ensures c.loop-key-test.true c.key-item.is in
    rw (p.1, p.2) (fails_at c.args.root.0 (removals c.args.keys.now) c.loop-key.key-index (this c.key-item.result) is_some c.loop-key.gone (g.S.Space.seen c.args.space.now) (g.S.Space.seen c.loop-key.space) (g.S.Space.seen c.del.new.space) c.in_err-del.field-0.0
    at.0 (omega (arith, length-map c.args.keys.now this)) at.1 c.loop-key.invariant.did c.in_err-del.ensures.failure)

pub returns-in_err-del-clause-call : goal.returns-in_err-del-clause-call
returns-in_err-del-clause-call g c =
    let p = err_from_is_err_and c.from_residual.result c.from_residual.ensures.1 in
    rw (p.1, p.2) (call_then g.S.Space g.met.S.Space.frame c.loop-key.invariant.call c.in_err-del.ensures.call)

pub overflow_add-gone : goal.overflow_add-gone
overflow_add-gone g c =
    let few = counts_few c.args.root.0 (take c.loop-key.key-index (removals c.args.keys.now)) is_some c.loop-key.gone _ _ c.loop-key.invariant.did in
    omega (arith, few, length-take c.loop-key.key-index (removals c.args.keys.now), length-map c.args.keys.now this, ap length c.items-key-items.ensures)

pub loop-key-preserved : goal.loop-key-preserved
loop-key-preserved g c =
    let old = g.S.Space.seen c.args.space.now in
    let mid = g.S.Space.seen c.loop-key.space in
    let new = g.S.Space.seen c.del.new.space in
    let was = c.loop-key.invariant in
    let item = c.key-item.result in
    let at = change_at this c.args.keys.now c.items-key-items.result.now c.loop-key.key-index item c.items-key-items.ensures c.loop-key-test.true c.key-item.is in
    let found = c.in_ok-del.field-0 in
    let did = c.in_ok-del.ensures in
    let form = removal_form c.args.root.0 item found mid new did.form in
    let step : ChangesKey c.args.root.0 (this item) found mid new = record { changed = did.changed; form = form; footprint = did.footprint } in
    let more : c.if-is_some.gone ≡ c.loop-key.gone + cond (is_some found) 1 0 = elim c.if-is_some.branch [
      | then-is_some w ↦ counted found _ _ _ c.is_some.ensures (inl (w.if-is_some.true, w.gone-is))
      | else-is_some w ↦ counted found _ _ _ c.is_some.ensures (inr (w.if-is_some.false, w.gone-is))
    ] in
    record {
      did = counts_more c.args.root.0 (removals c.args.keys.now) c.loop-key.key-index (this item) is_some c.loop-key.gone c.if-is_some.gone found old mid new at.0 at.1 was.did step more;
      given = give_more c.loop-key.key-index old mid new was.given (key_gives c.args.root.0 (this item).0 (this item).1 found mid new form);
      call = call_then g.S.Space g.met.S.Space.frame {fault = None} was.call did.call;
    }

pub returns-clause-changed : goal.returns-clause-changed
returns-clause-changed g c =
    let all = all_changes this c.args.keys.now c.items-key-items.result.now c.loop-key.key-index c.items-key-items.ensures c.loop-key-test.false in
    let old = g.S.Space.seen c.args.space.now in
    let new = g.S.Space.seen c.loop-key.space in
    unset_becomes c.args.root.0 c.args.keys.now c.loop-key.gone old new
    (subst (λ (cs : List Change). Counts c.args.root.0 cs is_some c.loop-key.gone old new) all c.loop-key.invariant.did)

pub returns-clause-footprint : goal.returns-clause-footprint
returns-clause-footprint g c =
    let all = all_changes this c.args.keys.now c.items-key-items.result.now c.loop-key.key-index c.items-key-items.ensures c.loop-key-test.false in
    let old = g.S.Space.seen c.args.space.now in
    let new = g.S.Space.seen c.loop-key.space in
    has_footprint c.args.root.0 (removals c.args.keys.now) is_some c.loop-key.gone (length c.args.keys.now) old new (sym (length-map c.args.keys.now this))
    (subst (λ (cs : List Change). Counts c.args.root.0 cs is_some c.loop-key.gone old new) all c.loop-key.invariant.did)
