use Rattle.std.proofs.Common.{MatchOption, sym, ◌∙◌}
use Rattle.std.proofs.lemmas.Bool.{false≢true}
use Rattle.std.proofs.lemmas.Slice.Eq.{bytes_eq-Decides}
use Rattle.std.proofs.lemmas.Option.{MatchOption-at_some, MatchOption-at_none}
use Rattle.sea_top.specs.Trail.{NoneStandsAt, HoldsRecord, IsFound}
use Rattle.sea_top.specs.Record.{BeginsWith, BeginsWithNone}
use Rattle.sea_top.proofs.Readings.{IfSome-from, IfSome-at, none_else, stands_there}
use Rattle.sea_top.proofs.trail.next_record.Goals as goal
use Rattle.sea_top.proofs.trail.next_record.Goals.{In-Some, In-Some-2, else-found-trail-via-then-found-trail+else-eq, else-found-trail-via-else-found-trail}

pub returns-in_default-clause-found : goal.returns-in_default-clause-found
returns-in_default-clause-found g c =
    let end = c.args.trail.now.end in
    IfSome-from (g.D.Device.contents c.args.device.now) _ (λ image told plain continues. MatchOption-at_none (NoneStandsAt image end) (λ bytes. HoldsRecord image end bytes.items) c.in_default.is (IfSome-at (λ image. MatchOption c.in_ok-bytes.field-0 (NoneStandsAt image end) (λ bytes. HoldsRecord image end bytes.items)) image told c.in_ok-bytes.ensures.bytes) plain continues.stands)

pub returns-in_default-2-clause-found : goal.returns-in_default-2-clause-found
returns-in_default-2-clause-found g c =
    let end = c.args.trail.now.end in
    IfSome-from (g.D.Device.contents c.args.device.now) _ (λ image told plain continues.
    let holds = MatchOption-at_some (NoneStandsAt image end) (λ bytes. HoldsRecord image end bytes.items) c.in-Some.bytes c.in-Some.is (IfSome-at (λ image. MatchOption c.in_ok-bytes.field-0 (NoneStandsAt image end) (λ bytes. HoldsRecord image end bytes.items)) image told c.in_ok-bytes.ensures.bytes) in
    let none = MatchOption-at_none (BeginsWithNone c.deref.result.now) (λ f. BeginsWith c.deref.result.now f.plain × IsFound f) c.in_default-2.is c.in_ok-found.ensures.found in
    none plain (rw c.deref.ensures.value (holds.whole plain continues.stands)))

pub returns-then-eq-clause-found : goal.returns-then-eq-clause-found
returns-then-eq-clause-found g c =
    let end = c.args.trail.now.end in
    IfSome-from (g.D.Device.contents c.args.device.now) _ (λ image told.
    let holds = MatchOption-at_some (NoneStandsAt image end) (λ bytes. HoldsRecord image end bytes.items) c.in-Some.bytes c.in-Some.is (IfSome-at (λ image. MatchOption c.in_ok-bytes.field-0 (NoneStandsAt image end) (λ bytes. HoldsRecord image end bytes.items)) image told c.in_ok-bytes.ensures.bytes) in
    let found = MatchOption-at_some (BeginsWithNone c.deref.result.now) (λ f. BeginsWith c.deref.result.now f.plain × IsFound f) c.in-Some-2.found c.in-Some-2.is c.in_ok-found.ensures.found in
    record {
      stands = stands_there image end c.in-Some.bytes.items c.in-Some-2.found.plain holds (rw c.deref.ensures.value at found.0);
      numbered = c.if-found-trail.true;
      linked = (bytes_eq-Decides c.in-Some-2.found.plain.previous.0 c.args.trail.now.previous.0).0 (sym c.if-eq.ensures);
    })

pub returns-clause-found : goal.returns-clause-found
returns-clause-found g c =
    let end = c.args.trail.now.end in
    IfSome-from (g.D.Device.contents c.args.device.now) _ (λ image told.
    let holds = MatchOption-at_some (NoneStandsAt image end) (λ bytes. HoldsRecord image end bytes.items) c.in-Some.bytes c.in-Some.is (IfSome-at (λ image. MatchOption c.in_ok-bytes.field-0 (NoneStandsAt image end) (λ bytes. HoldsRecord image end bytes.items)) image told c.in_ok-bytes.ensures.bytes) in
    let found = MatchOption-at_some (BeginsWithNone c.deref.result.now) (λ f. BeginsWith c.deref.result.now f.plain × IsFound f) c.in-Some-2.found c.in-Some-2.is c.in_ok-found.ensures.found in
    let stands = stands_there image end c.in-Some.bytes.items c.in-Some-2.found.plain holds (rw c.deref.ensures.value at found.0) in
    none_else image end c.args.trail.now.commit c.args.trail.now.previous.0 c.in-Some-2.found.plain stands (λ numbered linked.
    elim c.else-found-trail.branch [
      | else-found-trail-via-then-found-trail+else-eq w ↦ false≢true (w.if-eq.ensures ∙ (bytes_eq-Decides c.in-Some-2.found.plain.previous.0 c.args.trail.now.previous.0).1 linked)
      | else-found-trail-via-else-found-trail w ↦ w.if-found-trail.false numbered
    ]))
