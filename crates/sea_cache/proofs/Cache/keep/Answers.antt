use Rattle.std.proofs.Common.{refl, ap, ◌∙◌, ◌-◌, take}
use Rattle.sea_cache.specs.Cache.{clean_of, limit_of, without}
use Rattle.sea_cache.proofs.Entries.{kept_first}
use Rattle.sea_cache.proofs.Cache.keep.Goals as goal

pub returns-clause-ok : goal.returns-clause-ok
returns-clause-ok c =
    let at = c.args.at.0 in let es = clean_of c.args.self.now in
    let kept = kept_first at c.args.block (without es at) (take (limit_of c.args.self.now - 1) es) es in
    record {
      pinned = λ _. refl;
      clean = ap (λ cache. cache.entries) c.in_ok-put.ensures.entries ∙ kept;
      limit = ap (λ cache. cache.cap) c.in_ok-put.ensures.entries;
    }
