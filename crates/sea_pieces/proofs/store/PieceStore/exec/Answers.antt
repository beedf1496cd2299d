use Rattle.std.proofs.Common.{◌≡◌, ◌++◌, ◌∷◌, [], OnOk, sym, ap, subst, ◌∙◌}
use Rattle.std.specs.Option.{option_copied}
use Rattle.sea_object.specs.Answer.{item}
use Rattle.sea_pieces.specs.Committed.{objects_in}
use Rattle.sea_pieces.specs.Laying.{after_pieces}
use Rattle.sea_pieces.specs.Store.{NotesAtMost}
use Rattle.sea_pieces.proofs.Reading.{Reads, grown_notes, notes_since, read_versions, reads_name, reads_none, shared_now}
use Rattle.sea_pieces.proofs.Stable.{continues_then, grown_continues, others_kept, stable_on}
use Rattle.sea_pieces.proofs.store.PieceStore.exec.Goals.{After-exec, in-Some+in_ok-note, in_default}
use Rattle.sea_pieces.proofs.store.PieceStore.exec.Goals as goal

pub returns-in_err-settle-clause-notes : goal.returns-in_err-settle-clause-notes
returns-in_err-settle-clause-notes c = grown_notes c.args.client _ c.args.self.now c.settle.new.self c.settle.ensures.grows c.requires.open

pub returns-in_err-settle-clause-continues : goal.returns-in_err-settle-clause-continues
returns-in_err-settle-clause-continues c = grown_continues c.args.self.now c.settle.new.self c.settle.ensures.grows c.args.client

pub returns-in_err-settle-clause-others : goal.returns-in_err-settle-clause-others
returns-in_err-settle-clause-others c =
    others_kept c.args.client c.args.self.now c.settle.new.self (returns-in_err-settle-clause-continues c)

pub returns-in_err-note-clause-continues : goal.returns-in_err-note-clause-continues
returns-in_err-note-clause-continues c =
    continues_then c.args.client c.args.self.now c.settle.new.self c.note.new.self (grown_continues c.args.self.now c.settle.new.self c.settle.ensures.grows c.args.client) c.note.ensures.continues

pub returns-in_err-note-clause-others : goal.returns-in_err-note-clause-others
returns-in_err-note-clause-others c =
    others_kept c.args.client c.args.self.now c.note.new.self (returns-in_err-note-clause-continues c)

pub returns-in_err-note-clause-notes : goal.returns-in_err-note-clause-notes
returns-in_err-note-clause-notes c =
    notes_since c.args.client c.args.op.now c.args.self.now c.settle.new.self c.note.new.self c.settle.ensures.grows
    (subst (λ n. NotesAtMost n c.args.client c.settle.new.self c.note.new.self) (sym (ap option_copied c.in-Some.is) ∙ c.name_read.ensures) c.note.ensures.notes)

reads : (c : After-exec) → Reads c.args.client c.args.op.now c.args.self.now c.match-name_read.self
reads c =
    let old = c.args.self.now in
    let mid = c.settle.new.self in
    let op = c.args.op.now in
    elim c.match-name_read.branch [
      | in-Some+in_ok-note w ↦
          subst (Reads c.args.client op old) (sym w.self-is)
          (reads_name c.args.client op old mid w.note.new.self c.settle.ensures.grows w.in-Some.name.now w.in_ok-note.ensures.noted w.note.ensures.notes w.note.ensures.settled (sym (ap option_copied w.in-Some.is) ∙ c.name_read.ensures))
      | in_default w ↦
          subst (Reads c.args.client op old) (sym w.self-is)
          (reads_none c.args.client op old mid c.settle.ensures.grows c.requires.open c.in_ok-settle.ensures.settled (sym (ap option_copied w.in_default.is) ∙ c.name_read.ensures))
    ]

pub returns-clause-items : goal.returns-clause-items
returns-clause-items c =
    let done = c.args.transaction.now in
    subst (λ v. OnOk c.exec.result (c.exec.new.self.items ≡ done.items ++ item c.args.op.now (after_pieces done.pieces (objects_in v)) ∷ []))
    (read_versions c.args.client c.args.op.now c.args.self.now c.match-name_read.self (reads c)) c.exec.ensures.items

pub returns-clause-stable : goal.returns-clause-stable
returns-clause-stable c = λ ops stable.
    let has = (reads c).has in
    stable_on c.exec.result c.match-name_read.self c.args.client _ c.exec.new.self (λ quiet objects shares.
    c.exec.ensures.did ops objects (stable (has.quiet quiet) objects (has.kept objects shares))
    (shared_now c.args.client c.args.op.now c.args.self.now c.match-name_read.self (reads c) objects shares))

pub returns-clause-notes : goal.returns-clause-notes
returns-clause-notes c = (reads c).notes

pub returns-clause-continues : goal.returns-clause-continues
returns-clause-continues c = (reads c).continues

pub returns-clause-others : goal.returns-clause-others
returns-clause-others c = others_kept c.args.client c.args.self.now c.match-name_read.self (reads c).continues
