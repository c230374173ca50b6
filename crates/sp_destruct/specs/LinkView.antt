-- What links in memory stand for.
use Rattle.std.specs.Prelude.{ℕ, List}
use Rattle.sp_destruct.specs.declared.link.Link.{Link}

abbrev pub link_of : Link → ℕ × List ℕ
link_of l = (l.destruction, l.places.items)
