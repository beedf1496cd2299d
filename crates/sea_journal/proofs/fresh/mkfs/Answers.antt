use Rattle.std.proofs.Common.{◌≡◌, ◌≤◌, ◌∙◌, ℕ, List, MatchOption, Some, sym, ap, subst, arith}
use Rattle.std.specs.Option.{option_map}
use Rattle.std.proofs.lemmas.Option.{MatchOption-at_some, MatchOption-at_none, same_Some}
use Rattle.std.proofs.lemmas.Result.{err_from_is_err_and}
use Rattle.sea_base.specs.declared.place.Paddr.{Paddr}
use Rattle.sea_device.specs.Device.{overwritten}
use Rattle.sea_segment.specs.Header.{SpellsHeader}
use Rattle.sea_trail.specs.Trail.{IsTrail, blocks_needed}
use Rattle.sea_journal.specs.Mkfs.{AllBlank, IsLeastFilled, fresh_trail}
use Rattle.sea_journal.proofs.Calls.{FaultsRose-later, IfSome-from, IfSome-at}
use Rattle.sea_journal.proofs.Tears.{by_reads, InRange-then}
use Rattle.sea_journal.proofs.FreshTrails.{is_fresh_trail}
use Rattle.sea_journal.proofs.fresh.mkfs.Goals as goal

pub returns-in_err-block-clause-refused : goal.returns-in_err-block-clause-refused
returns-in_err-block-clause-refused g c =
    let p = err_from_is_err_and c.from_residual-in_err-block.result c.from_residual-in_err-block.ensures.1 in
    let fits : blocks_needed c.args.segments ≤ g.D.Device.size c.args.device.now = omega (arith, c.blocks-have.ensures) in
    rw (p.1, p.2) (fits, c.in_err-block.ensures.cause)

pub returns-in_err-block-clause-within : goal.returns-in_err-block-clause-within
returns-in_err-block-clause-within g c =
    let law = g.met.D.Device in
    by_reads 0 8192 c.args.device.now c.first_filled.new.device (law.whole c.args.device.now) (law.images_whole c.args.device.now) c.first_filled.ensures.read

pub returns-in-Some-clause-refused : goal.returns-in-Some-clause-refused
returns-in-Some-clause-refused g c =
    let fits : blocks_needed c.args.segments ≤ g.D.Device.size c.args.device.now = omega (arith, c.blocks-have.ensures) in (
      fits,
      IfSome-from (g.D.Device.contents c.args.device.now) _ (λ image told.
          MatchOption-at_some (AllBlank c.args.segments image) (λ (at : Paddr). IsLeastFilled c.args.segments at.0 image) c.in-Some.block c.in-Some.is
          (IfSome-at (λ (i : List ℕ). MatchOption c.in_ok-block.field-0 (AllBlank c.args.segments i) (λ (at : Paddr). IsLeastFilled c.args.segments at.0 i)) image told c.in_ok-block.ensures.found)),
      c.in_ok-block.ensures.cause,
    )

pub returns-in-Some-clause-within : goal.returns-in-Some-clause-within
returns-in-Some-clause-within g c =
    let law = g.met.D.Device in
    by_reads 0 8192 c.args.device.now c.first_filled.new.device (law.whole c.args.device.now) (law.images_whole c.args.device.now) c.first_filled.ensures.read

pub returns-in_err-write_fresh-clause-refused : goal.returns-in_err-write_fresh-clause-refused
returns-in_err-write_fresh-clause-refused g c =
    let p = err_from_is_err_and c.from_residual-in_err-write_fresh.result c.from_residual-in_err-write_fresh.ensures.1 in
    let fits : blocks_needed c.args.segments ≤ g.D.Device.size c.args.device.now = omega (arith, c.blocks-have.ensures) in
    let still : g.D.Device.faults c.first_filled.new.device ≡ g.D.Device.faults c.args.device.now = c.in_ok-block.ensures.cause in
    rw (p.1, p.2) (fits, FaultsRose-later (g.D.Device.faults c.args.device.now) (g.D.Device.faults c.first_filled.new.device) (g.D.Device.faults c.write_fresh.new.device) (omega arith) c.in_err-write_fresh.ensures.cause)

pub returns-in_err-write_fresh-clause-within : goal.returns-in_err-write_fresh-clause-within
returns-in_err-write_fresh-clause-within g c =
    let law = g.met.D.Device in
    InRange-then 0 8192 c.args.device.now c.first_filled.new.device c.write_fresh.new.device
    (by_reads 0 8192 c.args.device.now c.first_filled.new.device (law.whole c.args.device.now) (law.images_whole c.args.device.now) c.first_filled.ensures.read) c.write_fresh.ensures.within

pub returns-clause-within : goal.returns-clause-within
returns-clause-within g c =
    let law = g.met.D.Device in
    InRange-then 0 8192 c.args.device.now c.first_filled.new.device c.write_fresh.new.device
    (by_reads 0 8192 c.args.device.now c.first_filled.new.device (law.whole c.args.device.now) (law.images_whole c.args.device.now) c.first_filled.ensures.read) c.write_fresh.ensures.within

pub returns-clause-made : goal.returns-clause-made
returns-clause-made g c =
    let superblock = c.in_ok-superblock.superblock in
    let header = c.in_ok-header.header in
    record {
      fits = omega (arith, c.blocks-have.ensures);
      blank = IfSome-from (g.D.Device.contents c.args.device.now) _ (λ image told.
          MatchOption-at_none (AllBlank c.args.segments image) (λ (at : Paddr). IsLeastFilled c.args.segments at.0 image) c.in_default.is
          (IfSome-at (λ (i : List ℕ). MatchOption c.in_ok-block.field-0 (AllBlank c.args.segments i) (λ (at : Paddr). IsLeastFilled c.args.segments at.0 i)) image told c.in_ok-block.ensures.found));
      superblock = superblock;
      header = header;
      is_super = c.in_ok-superblock.ensures;
      is_header = subst (SpellsHeader header) c.first_header.ensures.is c.in_ok-header.ensures;
      written = c.in_ok-write_fresh.ensures.written ∙ ap (option_map (λ (b : List ℕ). overwritten 0 superblock (overwritten 4096 header b))) c.first_filled.ensures.read.contents;
      alone = c.in_ok-write_fresh.ensures.alone;
      faults = c.in_ok-write_fresh.ensures.cause ∙ c.in_ok-block.ensures.cause;
    }

pub returns-clause-trail : goal.returns-clause-trail
returns-clause-trail g c =
    let superblock = c.in_ok-superblock.superblock in
    let header = c.in_ok-header.header in
    let f : List ℕ → List ℕ = λ b. overwritten 0 superblock (overwritten 4096 header b) in
    let written = c.in_ok-write_fresh.ensures.written ∙ ap (option_map f) c.first_filled.ensures.read.contents in
    IfSome-from (g.D.Device.contents c.args.device.now) _ (λ old told.
    IfSome-from (g.D.Device.contents c.write_fresh.new.device) _ (λ image now none.
    let made : Some (f old) ≡ Some image = sym (written ∙ ap (option_map f) told) ∙ now in
    let same : f old ≡ image = same_Some (f old) image made in
    let fits : blocks_needed c.args.segments ≤ g.D.Device.size c.args.device.now = omega (arith, c.blocks-have.ensures) in
    let blank = MatchOption-at_none (AllBlank c.args.segments old) (λ (at : Paddr). IsLeastFilled c.args.segments at.0 old) c.in_default.is
    (IfSome-at (λ (i : List ℕ). MatchOption c.in_ok-block.field-0 (AllBlank c.args.segments i) (λ (at : Paddr). IsLeastFilled c.args.segments at.0 i)) old told c.in_ok-block.ensures.found) in
    subst (λ (i : List ℕ). IsTrail i (fresh_trail c.args.segments)) same
    (is_fresh_trail superblock header old c.args.segments (g.D.Device.size c.args.device.now) c.in_ok-write_fresh.ensures.blocks.0 c.in_ok-write_fresh.ensures.blocks.1 (g.met.D.Device.whole c.args.device.now old told).size fits c.requires
    c.in_ok-superblock.ensures (subst (SpellsHeader header) c.first_header.ensures.is c.in_ok-header.ensures) blank none)))
