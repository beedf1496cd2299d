use Rattle.std.proofs.Common.{◌≡◌, ℕ, ◌≤◌, List, [], ◌∷◌, ◌++◌, length, sym, ap, ◌∙◌, subst, arith, length-append}
use Rattle.sea_trail.specs.Parts.{AreFound, IsFit}
use Rattle.sea_trail.specs.Trail.{AreParts, HasChain, IsNumbered, IsOpen}
use Rattle.sea_trail.proofs.Joined.{AreParts-more}
use Rattle.sea_trail.proofs.Surveys.{AreFit-find, IsNumbered-found, none_numbered}
use Rattle.sea_trail.proofs.Telling.{IfSome-from, IfSome-at, OnlyRead-more}
use Rattle.sea_trail.proofs.Told.{missing}
use Rattle.sea_trail.proofs.joining.read_closed.Given.{Over}
use Rattle.sea_trail.proofs.joining.read_closed.Goals as goal
use Rattle.sea_trail.proofs.joining.read_closed.Goals.{After-header-in-loop-seq-1}

pub returns-in_default-clause-refused : goal.returns-in_default-clause-refused
returns-in_default-clause-refused g c =
    let segments = c.args.segments in
    let newest = c.args.newest.now in
    let found = c.args.found.now in
    let before = c.loop-seq.invariant in
    IfSome-from (g.D.Device.contents c.args.device.now) _ (λ image told.
    let both = IfSome-at (λ (image : List ℕ). AreFound image 0 segments found × IsOpen image segments newest) image told c.requires.found in
    let parts = IfSome-at (λ (image : List ℕ). AreParts image segments newest.last.tail.seq c.loop-seq.parts.items) image told before.so_far in
    missing image segments newest c.loop-seq.parts.items c.loop-seq.seq both.1 parts before.counted c.loop-seq-test.true
    (none_numbered image segments c.loop-seq.seq found both.0 (sym c.numbered.ensures ∙ c.in_default.is)))

fit : (g : Over) (c : After-header-in-loop-seq-1 g) → IsFit c.args.segments c.in-Some.header
fit g c = AreFit-find c.args.segments c.loop-seq.seq c.args.found.now c.in-Some.header c.requires.fit (sym c.numbered.ensures ∙ c.in-Some.is)

pub read_part-requires-clause-few : goal.read_part-requires-clause-few
read_part-requires-clause-few g c = omega (arith, (fit g c).within, c.requires.few.0)

pub read_part-requires-clause-within : goal.read_part-requires-clause-within
read_part-requires-clause-within g c = omega (arith, (fit g c).within, c.requires.few.1, c.loop-seq.invariant.only_read.size)

pub read_part-requires-clause-fit : goal.read_part-requires-clause-fit
read_part-requires-clause-fit g c = ((fit g c).header, (fit g c).link)

pub loop-seq-preserved : goal.loop-seq-preserved
loop-seq-preserved g c =
    let segments = c.args.segments in
    let newest = c.args.newest.now in
    let found = c.args.found.now in
    let parts = c.loop-seq.parts.items in
    let part = c.in_ok-part.part in
    let before = c.loop-seq.invariant in
    let items : c.push.new.self.items ≡ parts ++ part ∷ [] = c.in_ok-push.ensures.items in
    record {
      so_far = IfSome-from (g.D.Device.contents c.args.device.now) _ (λ image told.
          let both = IfSome-at (λ (image : List ℕ). AreFound image 0 segments found × IsOpen image segments newest) image told c.requires.found in
          let was = IfSome-at (λ (image : List ℕ). AreParts image segments newest.last.tail.seq parts) image told before.so_far in
          let chain = IfSome-at (λ (image : List ℕ). HasChain image part) image (before.only_read.contents ∙ told) c.in_ok-part.ensures.part in
          let numbered = (IsNumbered-found image segments c.loop-seq.seq found c.in-Some.header both.0 (sym c.numbered.ensures ∙ c.in-Some.is)).0 in
          let numbered' : IsNumbered image segments c.loop-seq.seq part.header = subst (IsNumbered image segments c.loop-seq.seq) (sym c.in_ok-part.ensures.header) numbered in
          subst (AreParts image segments newest.last.tail.seq) (sym items) (AreParts-more image segments newest.last.tail.seq c.loop-seq.seq parts part before.counted was numbered' chain));
      counted = omega (arith, before.counted, ap length items, length-append parts (part ∷ []));
      only_read = OnlyRead-more c.args.device.now c.loop-seq.device c.read_part.new.device before.only_read c.in_ok-part.ensures.read;
      later = omega (arith, before.later, c.in_ok-part.ensures.cause.later);
    }

pub returns-clause-closed : goal.returns-clause-closed
returns-clause-closed g c =
    let newest = c.args.newest.now in
    let before = c.loop-seq.invariant in
    let le : c.loop-seq.seq ≤ newest.header.seq = c.loop-seq.auto.seq-end c.requires.behind in
    IfSome-from (g.D.Device.contents c.args.device.now) _ (λ image told. record {
      parts = IfSome-at (λ (image : List ℕ). AreParts image c.args.segments newest.last.tail.seq c.loop-seq.parts.items) image told before.so_far;
      joined = omega (arith, before.counted, le, c.loop-seq-test.false);
    })
