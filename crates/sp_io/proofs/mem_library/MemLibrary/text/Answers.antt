use Rattle.std.proofs.Common.{ℕ, List, Option, Some, Vec, Global, option_map, ap, sym, ◌∙◌}
use Rattle.sp_io.specs.Shelf.{Shelf, under}
use Rattle.sp_io.proofs.Texts.{lookup-pairs}
use Rattle.sp_io.proofs.mem_library.MemLibrary.text.Goals as goal

pub returns-in-Some : goal.returns-in-Some
returns-in-Some c =
    ap (λ (bytes : List ℕ). Some bytes) c.as_slice.ensures.value
    ∙ ap (λ (found : Option (Vec ℕ Global)). option_map (λ text. text.items) found) c.in-Some.ensures.value
    ∙ sym (lookup-pairs (λ text. text.items) c.self.inside.texts.entries c.args.name.now)
    ∙ ap (λ (shelf : Shelf). under shelf c.args.name.now) c.self.view_is

pub returns-in-None : goal.returns-in-None
returns-in-None c =
    ap (λ (found : Option (Vec ℕ Global)). option_map (λ text. text.items) found) c.in-None.ensures.value
    ∙ sym (lookup-pairs (λ text. text.items) c.self.inside.texts.entries c.args.name.now)
    ∙ ap (λ (shelf : Shelf). under shelf c.args.name.now) c.self.view_is
