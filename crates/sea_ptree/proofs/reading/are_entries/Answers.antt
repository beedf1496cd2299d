use Rattle.std.proofs.Common.{◌≡◌, ℕ, ◌+◌, [], ◌∷◌, ◌++◌, take, refl, subst, sym, ◌∙◌, arith}
use Rattle.std.proofs.lemmas.Bool.{false≢true}
use Rattle.std.proofs.lemmas.List.{take_all}
use Rattle.sea_ptree.specs.Node.{IsRising}
use Rattle.sea_ptree.specs.Reading.{AreRead}
use Rattle.sea_ptree.proofs.Checks.{AreSlots, next_read, first_checked, more_checked, slot_there, key_above}
use Rattle.sea_ptree.proofs.EntryBytes.{entries_more, no_entries}
use Rattle.sea_ptree.proofs.Rising.{Lie-rising}
use Rattle.sea_ptree.proofs.reading.are_entries.Goals as goal
use Rattle.sea_ptree.proofs.reading.are_entries.Goals.{then-key-last-via-then-key-last, then-key-last-via-else-key-last+then-not-admits-2}

pub returns-then-not-admits-clause-told : goal.returns-then-not-admits-clause-told
returns-then-not-admits-clause-told c entries read =
    let first = c.entry_at-last.ensures in
    let next = next_read c.args.block.now c.args.count 0 entries c.entry_at-last.result first.length (omega arith) read (omega arith) first.fits first.spelled in
    (λ no. absurd (false≢true no), λ all. absurd (false≢true (sym c.if-not-admits.true ∙ c.admits.ensures.1 (slot_there c.args.kind c.args.level entries 0 c.entry_at-last.result next all.1))))

pub loop-index-init : goal.loop-index-init
loop-index-init c =
    let first = c.entry_at-last.ensures in
    record {
      read = (c.entry_at-last.result ∷ [], entries_more c.args.block.now 0 [] c.entry_at-last.result (no_entries c.args.block.now) first.fits first.spelled);
      told = λ entries read. first_checked c.args.kind c.args.level entries c.entry_at-last.result (next_read c.args.block.now c.args.count 0 entries c.entry_at-last.result first.length (omega arith) read (omega arith) first.fits first.spelled) (c.admits.ensures.0 c.if-not-admits.false);
    }

pub returns-then-key-last-clause-told : goal.returns-then-key-last-clause-told
returns-then-key-last-clause-told c entries read =
    let here = c.entry_at-key.ensures in
    let next = next_read c.args.block.now c.args.count c.loop-index.index entries c.entry_at-key.result here.length (omega arith) read (omega arith) here.fits here.spelled in (
      λ no. absurd (false≢true no),
      λ all. absurd (elim c.then-key-last.branch [
        | then-key-last-via-then-key-last w ↦ omega (arith, w.if-key-last.true, key_above c.args.kind c.args.level entries c.loop-index.index c.loop-index.last c.entry_at-key.result (c.loop-index.invariant.told entries read) next read.fits all.0)
        | then-key-last-via-else-key-last+then-not-admits-2 w ↦ false≢true (sym w.if-not-admits-2.true ∙ w.admits-else-key-last.ensures.1 (slot_there c.args.kind c.args.level entries c.loop-index.index c.entry_at-key.result next all.1))
      ]),
    )

pub loop-index-preserved : goal.loop-index-preserved
loop-index-preserved c =
    let here = c.entry_at-key.ensures in
    let before = c.loop-index.invariant in
    record {
      read = (before.read.0 ++ c.entry_at-key.result ∷ [], entries_more c.args.block.now c.loop-index.index before.read.0 c.entry_at-key.result before.read.1 here.fits here.spelled);
      told = λ entries read. more_checked c.args.kind c.args.level entries c.loop-index.index c.loop-index.last c.entry_at-key.result (before.told entries read) (next_read c.args.block.now c.args.count c.loop-index.index entries c.entry_at-key.result here.length (omega arith) read (omega arith) here.fits here.spelled) (omega arith) (c.admits-else-key-last.ensures.0 c.if-not-admits-2.false);
    }

pub returns-clause-told : goal.returns-clause-told
returns-clause-told c entries read =
    let end : c.loop-index.index ≡ c.args.count = omega arith in
    let all : take c.loop-index.index entries ≡ entries = take_all c.loop-index.index entries (omega (arith, read.count_is)) in
    let so = c.loop-index.invariant.told entries read in
    (λ _. (subst IsRising all (Lie-rising 0 (c.loop-index.last + 1) (take c.loop-index.index entries) so.rising), subst (AreSlots c.args.kind c.args.level) all so.slots), λ _. refl)

pub returns-clause-read : goal.returns-clause-read
returns-clause-read c _ =
    let end : c.loop-index.index ≡ c.args.count = omega arith in
    (c.loop-index.invariant.read.0, subst (λ (n : ℕ). AreRead c.args.block.now n c.loop-index.invariant.read.0) end c.loop-index.invariant.read.1)
