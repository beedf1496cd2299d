use Rattle.std.proofs.Common.{◌≡◌, ℕ, ◌+◌, ◌-◌, ◌*◌, ◌≤◌, List, length, take, drop, refl, ap, subst, arith}
use Rattle.std.proofs.lemmas.List.{length-drop, take_all}
use Rattle.std.proofs.lemmas.Option.{MatchOption-at_some, MatchOption-at_none}
use Rattle.sea_record.specs.Record.{blocks}
use Rattle.sea_trail.specs.Parts.{GoesOn}
use Rattle.sea_trail.specs.Trail.{NoneContinues}
use Rattle.sea_trail.proofs.Chains.{HasRead-all, HasRead-more, blocks-some, within}
use Rattle.sea_trail_trial.specs.Plain.{GoesOn as Goes}
use Rattle.sea_trail_trial.specs.declared.plain.chain.Next.{Next}
use Rattle.sea_trail_trial.proofs.PlainChains.{behind, linked}
use Rattle.sea_trail_trial.proofs.plain.chain.chain_behind.Goals as goal
use Rattle.sea_trail_trial.proofs.plain.chain.chain_behind.Goals.{In_ok-push}

-- the bytes of a slice to the end
sliced : (at : ℕ) (bytes : List ℕ) → take (length bytes - at) (drop at bytes) ≡ drop at bytes
sliced at bytes = take_all (length bytes - at) (drop at bytes) (omega (arith, length-drop at bytes))

goes : (c : In_ok-push) → GoesOn (drop c.loop-part.at c.args.bytes.now) c.loop-part.part (record { entry = c.in-Some.next.entry; link = c.in-Some.next.link })
goes c =
    let at = c.loop-part.at in
    let bytes = c.args.bytes.now in
    let rest = take (length bytes - at) (drop at bytes) in
    let part = c.loop-part.part in
    let next = c.in-Some.next in
    let on = subst (λ (b : List ℕ). Goes b part next.entry next.link) (sliced at bytes)
    (MatchOption-at_some (NoneContinues rest part.end.0 part.header.seq part.last) (λ (n : Next). Goes rest part n.entry n.link) next c.in-Some.is c.in_ok-next.ensures) in
    record { continues = on.0; link = on.1 }

pub loop-part-smaller : goal.loop-part-smaller
loop-part-smaller c =
    let at = c.loop-part.at in
    let bytes = c.args.bytes.now in
    let r = c.in-Some.next.entry in
    let size : c.size-blocks.result ≡ blocks r.body = c.size-blocks.ensures in
    let some : 1 ≤ blocks r.body = blocks-some r in
    let fits : 4096 * blocks r.body ≤ length (drop at bytes) = within (drop at bytes) r (goes c).continues.stands in
    let left = length-drop at bytes in
    omega arith

pub loop-part-preserved : goal.loop-part-preserved
loop-part-preserved c =
    HasRead-more (linked c.args.header c.args.link) c.args.bytes.now c.loop-part.at _ c.loop-part.part _ (record { entry = c.in-Some.next.entry; link = c.in-Some.next.link }) c.loop-part.invariant (goes c)
    (ap (λ (n : ℕ). c.loop-part.at + n * 4096) c.size-blocks.ensures) refl c.in_ok-push.ensures.ok (ap (λ (n : ℕ). c.loop-part.part.end.0 + n) c.size-blocks.ensures) refl

pub returns : goal.returns
returns c =
    let at = c.loop-part.at in
    let bytes = c.args.bytes.now in
    let rest = take (length bytes - at) (drop at bytes) in
    let part = c.loop-part.part in
    behind c.args.header c.args.link bytes part
    (HasRead-all (linked c.args.header c.args.link) bytes at part c.loop-part.invariant
    (subst (λ (b : List ℕ). NoneContinues b part.end.0 part.header.seq part.last) (sliced at bytes)
    (MatchOption-at_none (NoneContinues rest part.end.0 part.header.seq part.last) (λ (n : Next). Goes rest part n.entry n.link) c.in_default.is c.in_ok-next.ensures)))
