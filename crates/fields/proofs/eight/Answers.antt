-- Eight bytes one after another are the field of 64 bits there.
use Rattle.std.proofs.Common.{◌≡◌, ℕ, ◌+◌, ◌-◌, ◌<◌, length, drop, get_or, add-zero, ap, ◌∙◌, arith, lit<}
use Rattle.std.proofs.lemmas.List.{get_or-take, get_or-drop}
use Rattle.fields.proofs.Windows.{field_eight}
use Rattle.fields.proofs.eight.Goals as goal

pub returns : goal.returns
returns c =
    let l = c.args.bytes.now in
    let first = c.args.first in
    let chunk = rw c.unwrap-word.ensures at c.first_chunk.ensures.cases in
    let at : (i : ℕ) → i < 8 → get_or c.unwrap-word.result.now i 0 ≡ get_or l (first + i) 0 =
    λ i h. ap (λ (w : _). get_or w i 0) chunk.same
    ∙ get_or-take 8 _ i 0 h
    ∙ get_or-take (length l - first) (drop first l) i 0 (omega (arith, c.requires))
    ∙ get_or-drop first l i 0 in
    omega (
      arith,
      c.from_be_bytes.ensures,
      field_eight l first c.requires (λ j. (c.type_inv.bytes j).fits),
      at 0 (lit< tt) ∙ ap (λ (n : ℕ). get_or l n 0) (add-zero first),
      at 1 (lit< tt),
      at 2 (lit< tt),
      at 3 (lit< tt),
      at 4 (lit< tt),
      at 5 (lit< tt),
      at 6 (lit< tt),
      at 7 (lit< tt),
    )
