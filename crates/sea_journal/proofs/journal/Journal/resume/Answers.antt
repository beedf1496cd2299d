use Rattle.std.proofs.Common.{refl, sym, subst}
use Rattle.sea_journal.specs.Opening.{KeepsFound}
use Rattle.sea_journal.specs.Resume.{opened}
use Rattle.sea_journal.proofs.Journals.{start_has}
use Rattle.sea_journal.proofs.journal.Journal.resume.Goals as goal

pub returns-in-Ok-clause-begun : goal.returns-in-Ok-clause-begun
returns-in-Ok-clause-begun g c = λ image found.
    let t = c.args.trail.now in
    let has = start_has image t _ found.trail (c.behind-queue.ensures.waits image) refl found.in_table found.told found.alone g.met.D.Device.whole in
    c.in-Ok.ensures.begun (opened image t) has refl

pub returns-in-Ok-clause-crash : goal.returns-in-Ok-clause-crash
returns-in-Ok-clause-crash g c = λ image found.
    let t = c.args.trail.now in
    let has = start_has image t _ found.trail (c.behind-queue.ensures.waits image) refl found.in_table found.told found.alone g.met.D.Device.whole in
    c.add_mount.ensures.crash (opened image t) has refl

pub returns-in-Err-clause-crash : goal.returns-in-Err-clause-crash
returns-in-Err-clause-crash g c = λ image found.
    let t = c.args.trail.now in
    let has = start_has image t _ found.trail (c.behind-queue.ensures.waits image) refl found.in_table found.told found.alone g.met.D.Device.whole in
    subst (KeepsFound g.D.Device (opened image t) c.args.table c.args.device) (sym c.close.ensures) (c.add_mount.ensures.crash (opened image t) has refl)
