use Rattle.std.proofs.Common.{◌≡◌, ◌-◌, [], ◌∷◌, ◌++◌, length, set, ap, sym, ◌∙◌, arith}
use Rattle.std.specs.Vec.Iter.{into_iter_items}
use Rattle.sea_history.specs.Plan.{requests_of}
use Rattle.sea_script.specs.Script.{greatest_client}
use Rattle.sea_script.proofs.Operations.{left_more}
use Rattle.sea_script.proofs.Plans.{greatest_few, greatest_some, next_of, plan_has, plan_length, plan_more, plan_none, plan_up_to}
use Rattle.sea_script.proofs.planning.plan_of.Goals as goal

pub new-requires : goal.new-requires
new-requires c =
    let all = c.args.all.items in
    let is : c.greatest_client.result ≡ greatest_client all = c.greatest_client.ensures ∙ ap greatest_client c.deref.ensures.value in
    rw is (greatest_some all, greatest_few all c.requires.clients)

pub loop-client-init : goal.loop-client-init
loop-client-init c =
    let all = c.args.all.items in
    let is : c.greatest_client.result ≡ greatest_client all = c.greatest_client.ensures ∙ ap greatest_client c.deref.ensures.value in
    record {
      done = [];
      read = sym c.into_iter-left.ensures.rest;
      plan = c.in_ok-plan.ensures ∙ sym (plan_none 1 c.greatest_client.result) ∙ ap (λ n. plan_up_to n []) is;
    }

pub add-requires-clause-client : goal.add-requires-clause-client
add-requires-clause-client c =
    let all = c.args.all.items in
    let done = c.loop-client.invariant.done in
    let next = next_of all done (into_iter_items c.next.new.self) c.in-Some.field-0 (c.loop-client.invariant.read ∙ ap (λ xs. done ++ xs) c.in-Some.ensures.items) c.requires.clients c.requires.few in
    let long = ap length c.loop-client.invariant.plan ∙ plan_length (greatest_client all) done in
    (next.client.0, omega (arith, long, next.within))

pub add-requires-clause-room : goal.add-requires-clause-room
add-requires-clause-room c =
    let all = c.args.all.items in
    let done = c.loop-client.invariant.done in
    let a = c.in-Some.field-0 in
    let next = next_of all done (into_iter_items c.next.new.self) a (c.loop-client.invariant.read ∙ ap (λ xs. done ++ xs) c.in-Some.ensures.items) c.requires.clients c.requires.few in
    let has = ap length (ap (requests_of a.client) c.loop-client.invariant.plan ∙ plan_has (greatest_client all) a.client done next.client.0 next.within) in
    omega (arith, has, next.room)

pub loop-client-preserved : goal.loop-client-preserved
loop-client-preserved c =
    let all = c.args.all.items in
    let done = c.loop-client.invariant.done in
    let a = c.in-Some.field-0 in
    let rest = into_iter_items c.next.new.self in
    let next = next_of all done rest a (c.loop-client.invariant.read ∙ ap (λ xs. done ++ xs) c.in-Some.ensures.items) c.requires.clients c.requires.few in
    record {
      done = done ++ a ∷ [];
      read = left_more all done (into_iter_items c.loop-client.left) rest a c.loop-client.invariant.read c.in-Some.ensures.items;
      plan = c.in_ok-add.ensures.ok ∙ ap (λ p. set p (a.client - 1) (requests_of a.client p ++ a.request ∷ [])) c.loop-client.invariant.plan ∙ plan_more (greatest_client all) done a next.client.0 next.within;
    }
