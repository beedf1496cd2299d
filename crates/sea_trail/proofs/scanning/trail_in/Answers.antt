use Rattle.std.proofs.Common.{◌≡◌, List, [], ◌∷◌, ◌++◌, get_or, drop, refl, ap, ◌∙◌, subst}
use Rattle.std.proofs.lemmas.Option.{MatchOption-at_some, MatchOption-at_none}
use Rattle.sea_base.specs.declared.place.Paddr.{Paddr}
use Rattle.sea_trail.specs.declared.trail.Part.{Part}
use Rattle.sea_trail.specs.Parts.{HasNoPlace, IsPlace}
use Rattle.sea_trail.specs.Refusals.{IsBreak}
use Rattle.sea_trail.specs.Trail.{AreLinked, records_in}
use Rattle.sea_trail.proofs.Told.{first_placed, told_astray, told_trail}
use Rattle.sea_trail.proofs.scanning.trail_in.Goals as goal

pub returns-in_default-before_place-clause-refused : goal.returns-in_default-before_place-clause-refused
returns-in_default-before_place-clause-refused c = λ image told.
    let closed = c.args.closed.items in
    let newest = c.args.newest in
    let place = newest.last.tail.place.0 in
    let p = c.index.result.now in
    let items : c.push.new.self.items ≡ closed ++ newest ∷ [] = c.in_ok-push.ensures.items in
    let is : p ≡ get_or (closed ++ newest ∷ []) 0 p = c.index.ensures ∙ ap (λ (xs : List Part). get_or xs 0 p) items in
    let linked = MatchOption-at_none (AreLinked c.deref.result.now) (λ (block : Paddr). IsBreak c.deref.result.now block.0) c.in_default.is c.broken_at.ensures in
    let linked' : AreLinked (closed ++ newest ∷ []) = subst AreLinked (c.deref.ensures.value ∙ items) linked in
    let placed = first_placed image c.args.segments c.args.found.now closed newest p told is in
    let none = MatchOption-at_none (HasNoPlace p place) (IsPlace p place) c.in_default-before_place.is (c.before_place.ensures placed) in
    told_astray image c.args.segments c.args.found.now closed newest p told linked' is none

pub returns-clause-trail : goal.returns-clause-trail
returns-clause-trail c = λ image told.
    let closed = c.args.closed.items in
    let newest = c.args.newest in
    let place = newest.last.tail.place.0 in
    let p = c.index.result.now in
    let at = c.in-Some-before_place.before in
    let items : c.push.new.self.items ≡ closed ++ newest ∷ [] = c.in_ok-push.ensures.items in
    let is : p ≡ get_or (closed ++ newest ∷ []) 0 p = c.index.ensures ∙ ap (λ (xs : List Part). get_or xs 0 p) items in
    let linked = MatchOption-at_none (AreLinked c.deref.result.now) (λ (block : Paddr). IsBreak c.deref.result.now block.0) c.in_default.is c.broken_at.ensures in
    let linked' : AreLinked (closed ++ newest ∷ []) = subst AreLinked (c.deref.ensures.value ∙ items) linked in
    let placed = first_placed image c.args.segments c.args.found.now closed newest p told is in
    let there = MatchOption-at_some (HasNoPlace p place) (IsPlace p place) at c.in-Some-before_place.is (c.before_place.ensures placed) in
    told_trail image c.args.found.now closed newest p at _ told linked' is there refl refl refl refl
    (c.from_vec-2.ensures ∙ c.in_ok-headers.ensures) (c.from_vec.ensures ∙ c.in_ok-records.ensures ∙ ap (λ (xs : List Part). drop at (records_in xs)) items)
