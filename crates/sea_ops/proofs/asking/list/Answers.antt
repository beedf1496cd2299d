use Rattle.std.proofs.Common.{List, [], ◌∷◌, ℕ, refl, ap, ◌∙◌, take, filter}
use Rattle.std.proofs.lemmas.Result.{err_from_is_err_and}
use Rattle.std.specs.Option.{option_copied, unwrap_or}
use Rattle.sea_base.specs.Space.{laid}
use Rattle.sea_base.proofs.Spaces.{only_read-refl}
use Rattle.sea_object.specs.declared.op.Op.TheVariants.{List as ListNames}
use Rattle.sea_object.specs.declared.reply.Item.TheVariants.{Names}
use Rattle.sea_object.specs.Objects.{is_after}
use Rattle.sea_ops.proofs.Asked.{asks, meets_find, meets_tree, range_fails}
use Rattle.sea_ops.proofs.Names.{same_names}
use Rattle.sea_ops.proofs.asking.list.Goals as goal

pub returns-clause-does : goal.returns-clause-does
returns-clause-does g c =
    let old = g.S.Space.seen c.args.space.now in
    let new = g.S.Space.seen c.names.new.space in
    let after = option_copied c.args.after in
    let reads = c.in_ok-listed.ensures.reads in
    asks (ListNames c.args.limit after) (Names c.in_ok-listed.listed) old new reads (λ objects. refl) refl (λ o. refl)
    (λ store next objects m.
    ap Names (c.in_ok-listed.ensures.names store m.formed.onodes (meets_find store next objects old new new reads (only_read-refl new) m)
    ∙ ap (λ (names : List (List ℕ)). take c.args.limit (filter (is_after after) names)) (same_names (laid old store) m.formed.onodes objects m.formed.each)))

pub returns-in_err-listed-clause-failure : goal.returns-in_err-listed-clause-failure
returns-in_err-listed-clause-failure g c =
    let old = g.S.Space.seen c.args.space.now in
    let new = g.S.Space.seen c.names.new.space in
    let p = err_from_is_err_and c.from_residual.result c.from_residual.ensures.1 in
    rw (p.1, p.2) (λ store next objects m.
    let held = m.formed.order.tree in
    range_fails c.in_err-listed.field-0.0 1 (unwrap_or (option_copied c.args.after) (0 ∷ [])) held.content old new store (meets_tree store next objects old old new (only_read-refl old) c.in_err-listed.ensures.reads m 1 held.content held.tree) c.in_err-listed.ensures.fault)
