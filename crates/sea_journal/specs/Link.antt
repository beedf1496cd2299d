-- What the last record or header hands on, as a header can say it.
use Rattle.std.specs.Prelude.{◌≡◌, ℕ, ◌^◌, ◌<◌, length}
use Rattle.sea_base.specs.RootFields.{IsRoot, IsTail}
use Rattle.sea_trail.specs.declared.link.Link.{Link}

-- a link that a header can hand on
pub record IsLink (link : Link) : Type 0 where
  pub mount : link.mount < 2 ^ 63
  pub commit : link.commit.0 < 2 ^ 63
  pub digest : length link.digest.0 ≡ 32
  pub tail : IsTail link.tail
  pub root : IsRoot link.root
