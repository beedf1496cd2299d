use Rattle.sea_onode.proofs.Saving.{notes_erased, meets_tree, erases, form_erase}
use Rattle.sea_onode.proofs.changing.erase.Goals as goal

pub returns-clause-changed : goal.returns-clause-changed
returns-clause-changed g c store onodes m =
    erases store (g.S.Space.seen c.args.space.now) (g.S.Space.seen c.del.new.space) onodes c.args.name.now c.in_ok-del.ensures.next.0 m (c.in_ok-del.ensures.changed store m.onodes.content (meets_tree m)).1

pub returns-clause-form : goal.returns-clause-form
returns-clause-form g c store onodes m =
    form_erase (g.S.Space.seen c.args.space.now) (g.S.Space.seen c.del.new.space) c.args.name.now store onodes m c.in_ok-del.field-0 (c.in_ok-del.ensures.changed store m.onodes.content (meets_tree m)).0 c.in_ok-del.ensures.form

pub returns-clause-notes : goal.returns-clause-notes
returns-clause-notes g c = notes_erased (g.S.Space.seen c.args.space.now) (g.S.Space.seen c.del.new.space) c.args.name.now c.in_ok-del.field-0 c.in_ok-del.ensures.form
