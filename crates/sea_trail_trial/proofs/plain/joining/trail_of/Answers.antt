use Rattle.std.proofs.Common.{◌≡◌, List, [], ◌∷◌, ◌++◌, get_or, drop, refl, sym, ap, ◌∙◌, subst}
use Rattle.std.specs.Prelude.{map}
use Rattle.std.proofs.lemmas.Option.{MatchOption-at_some, MatchOption-at_none}
use Rattle.sea_base.specs.declared.place.Paddr.{Paddr}
use Rattle.sea_trail.specs.declared.trail.Part.{Part}
use Rattle.sea_trail.specs.Parts.{HasNoPlace, IsPlace}
use Rattle.sea_trail.specs.Refusals.{IsBreak}
use Rattle.sea_trail.specs.Trail.{AreLinked, records_in}
use Rattle.sea_trail.proofs.Told.{first_placed, told_astray, told_trail}
use Rattle.sea_trail_trial.proofs.PlainHeaders.{found_of}
use Rattle.sea_trail_trial.proofs.PlainTrails.{headers_again, told}
use Rattle.sea_trail_trial.proofs.plain.joining.trail_of.Goals as goal

pub returns-in_default-before_place : goal.returns-in_default-before_place
returns-in_default-before_place c =
    let image = c.args.image.now in
    let segments = c.args.segments in
    let closed = c.args.closed.items in
    let newest = c.args.newest in
    let found = map found_of c.args.headers.items in
    let place = newest.last.tail.place.0 in
    let p = c.index.result.now in
    let items : c.push.new.self.items ≡ closed ++ newest ∷ [] = c.in_ok-push.ensures.items in
    let is : p ≡ get_or (closed ++ newest ∷ []) 0 p = c.index.ensures ∙ ap (λ (xs : List Part). get_or xs 0 p) items in
    let linked = MatchOption-at_none (AreLinked c.deref.result.now) (λ (block : Paddr). IsBreak c.deref.result.now block.0) c.in_default.is c.broken_at.ensures in
    let linked' : AreLinked (closed ++ newest ∷ []) = subst AreLinked (c.deref.ensures.value ∙ items) linked in
    let all = told image segments c.args.headers.items closed newest c.requires.headers c.requires.open_part c.requires.closed in
    let placed = first_placed image segments found closed newest p all is in
    let none = MatchOption-at_none (HasNoPlace p place) (IsPlace p place) c.in_default-before_place.is (c.before_place.ensures placed) in
    told_astray image segments found closed newest p all linked' is none

pub returns : goal.returns
returns c =
    let image = c.args.image.now in
    let segments = c.args.segments in
    let closed = c.args.closed.items in
    let newest = c.args.newest in
    let found = map found_of c.args.headers.items in
    let place = newest.last.tail.place.0 in
    let p = c.index.result.now in
    let at = c.in-Some-before_place.before in
    let items : c.push.new.self.items ≡ closed ++ newest ∷ [] = c.in_ok-push.ensures.items in
    let is : p ≡ get_or (closed ++ newest ∷ []) 0 p = c.index.ensures ∙ ap (λ (xs : List Part). get_or xs 0 p) items in
    let linked = MatchOption-at_none (AreLinked c.deref.result.now) (λ (block : Paddr). IsBreak c.deref.result.now block.0) c.in_default.is c.broken_at.ensures in
    let linked' : AreLinked (closed ++ newest ∷ []) = subst AreLinked (c.deref.ensures.value ∙ items) linked in
    let all = told image segments c.args.headers.items closed newest c.requires.headers c.requires.open_part c.requires.closed in
    let placed = first_placed image segments found closed newest p all is in
    let there = MatchOption-at_some (HasNoPlace p place) (IsPlace p place) at c.in-Some-before_place.is (c.before_place.ensures placed) in
    told_trail image found closed newest p at _ all linked' is there refl refl refl refl
    (c.from_vec-2.ensures ∙ sym (headers_again c.args.headers.items)) (c.from_vec.ensures ∙ c.in_ok-records.ensures ∙ ap (λ (xs : List Part). drop at (records_in xs)) items)
