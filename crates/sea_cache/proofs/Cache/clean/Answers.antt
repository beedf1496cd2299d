use Rattle.std.proofs.Common.{nat_eq, refl, ap, ◌∙◌}
use Rattle.std.specs.Map.{lookup}
use Rattle.sea_cache.specs.Cache.{clean_of, without, block_at}
use Rattle.sea_cache.proofs.Entries.{used_first, used_found}
use Rattle.sea_cache.proofs.Cache.clean.Goals as goal

pub returns : goal.returns
returns c =
    let at = c.args.at.0 in let es = clean_of c.args.self.now in let rest = without es at in
    let entries = used_first at rest es es in
    let new = ap (λ cache. cache.entries) c.promote.ensures.entries ∙ entries in (
      (refl, λ _. tt, record { pinned = λ _. refl; clean = new; limit = ap (λ cache. cache.cap) c.promote.ensures.entries }),
      record { used = tt; found = c.peek.ensures ∙ ap (lookup (nat_eq at)) new ∙ used_found at rest es (block_at es at) refl },
    )
