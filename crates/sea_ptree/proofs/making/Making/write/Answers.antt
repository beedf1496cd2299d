use Rattle.std.proofs.Common.{ℕ, ◌++◌, ◌∷◌, [], List, take, rules, refl, ap, ◌∙◌, arith}
use Rattle.sea_base.specs.Digest.{sha256}
use Rattle.sea_ptree.proofs.Makings.{first_key}
use Rattle.sea_ptree.proofs.making.Making.write.Goals as goal

pub returns : goal.returns
returns c = record {
  kind = refl;
  place = refl;
  nodes = c.in_ok-push.ensures.items ∙ ap (λ (b : List ℕ). c.args.self.now.nodes.items ++ b ∷ []) c.in_ok-block.ensures;
  dead = refl;
  key = first_key c.args.entries.now _ c.requires.some;
  at = omega (arith, c.len.ensures, c.args.self.now.nodes.ok.0);
  version = refl;
  sum = record {
    fits = search (rules, c.sum_of.type_inv);
    spelled = c.sum_of.ensures ∙ ap (λ (b : List ℕ). take 8 (sha256 b)) c.in_ok-block.ensures;
  };
  at_fits = omega (arith, c.len.ensures, c.args.self.now.nodes.ok.0, c.requires.room);
}
