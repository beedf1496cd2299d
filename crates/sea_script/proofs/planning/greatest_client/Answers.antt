use Rattle.std.proofs.Common.{◌≡◌, take, add-one, ap, sym, ◌∙◌, arith, rules}
use Rattle.std.specs.Prelude.{max}
use Rattle.std.proofs.lemmas.Grind.{common_steps}
use Rattle.sea_script.specs.Script.{greatest_client}
use Rattle.sea_script.proofs.Plans.{greatest_more}
use Rattle.sea_script.proofs.planning.greatest_client.Goals as goal

pub loop-asked-preserved : goal.loop-asked-preserved
loop-asked-preserved c =
    let all = c.args.all.now in
    let index = c.loop-asked.asked-index in
    let a = c.asked-item.result in
    let greater : c.max-greatest.result ≡ max c.loop-asked.greatest a.client = search rules in
    rw add-one
    (greater ∙ ap (λ g. max g a.client) c.loop-asked.invariant ∙ ap (λ x. max (greatest_client (take index all)) x.client) c.asked-item.is ∙ sym (greatest_more all index a c.loop-asked-test.true))

pub returns : goal.returns
returns c =
    let whole : take c.loop-asked.asked-index c.args.all.now ≡ c.args.all.now = grind (arith, common_steps) in
    c.loop-asked.invariant ∙ ap greatest_client whole
