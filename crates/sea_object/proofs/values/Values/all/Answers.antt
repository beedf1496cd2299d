use Rattle.std.proofs.Common.{◌∙◌}
use Rattle.sea_object.specs.Held.{values_in}
use Rattle.sea_object.proofs.Listing.{all_pairs}
use Rattle.sea_object.proofs.values.Values.all.Goals as goal

pub returns : goal.returns
returns c = c.in_ok-pairs.ensures ∙ all_pairs c.len.result (values_in c.args.self.now) c.len.ensures.value
