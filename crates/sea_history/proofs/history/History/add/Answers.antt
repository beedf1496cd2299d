use Rattle.std.proofs.Common.{◌≡◌, arith, length, ap, ◌∙◌, ◌-◌, ◌+◌, ◌≤◌, ◌<◌, get_or}
use Rattle.std.specs.Prelude.{vec_len}
use Rattle.std.proofs.lemmas.List.{get_or_read}
use Rattle.sea_history.specs.declared.history.Entry.{Entry}
use Rattle.sea_history.proofs.Numbers.{counted_more, numbered_more}
use Rattle.sea_history.proofs.history.History.add.Goals as goal

pub invariant_of-self : goal.invariant_of-self
invariant_of-self c =
    let counts = c.self.inside.counts in
    let entries = c.self.inside.entries in
    let next : Entry = record { client = c.args.client; number = c.index.result.now + 1; reply = c.args.reply } in
    let clients : vec_len counts ≡ c.args.self.now.clients = ap (λ r. r.clients) c.self.view_is in
    let few : length entries.items ≡ length c.args.self.now.entries = ap (λ r. length r.entries) c.self.view_is in
    let spare : c.self.inside.spare ≡ c.args.self.now.spare = ap (λ r. r.spare) c.self.view_is in
    let within : c.args.client - 1 < length counts.items = omega (arith, counts.ok.0) in
    let read = get_or_read counts.items (c.args.client - 1) c.index.result.now within c.index.ensures 0 in
    let number : next.number ≡ get_or counts.items (c.args.client - 1) 0 + 1 = ap (λ n. n + 1) read in
    let long : c.args.client ≤ length counts.items = omega (arith, counts.ok.0) in
    record {
      counted = λ q some_q few_q.
          rw c.in-Ok.ensures.items (counted_more counts.items entries.items next (λ k some_k few_k. c.self.invariant.counted k some_k (omega (arith, few_k, counts.ok.0))) c.requires.client.0 long number q some_q (omega (arith, few_q, counts.ok.0)));
      numbered = rw c.in-Ok.ensures.items (numbered_more entries.items next c.self.invariant.numbered (number ∙ ap (λ n. n + 1) (c.self.invariant.counted c.args.client c.requires.client.0 (omega (arith, clients)))));
      few = omega (arith, few, entries.ok.0, c.in-Ok.ensures.len);
      back = c.self.invariant.back;
      within = omega (arith, spare, c.in-Ok.ensures.len, c.push.ensures.capacity);
      clients = c.self.invariant.clients;
    }
