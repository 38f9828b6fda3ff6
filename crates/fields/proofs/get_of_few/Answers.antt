-- The field lies inside the number of all bytes from its first one on.
use Rattle.std.proofs.Common.{ℕ, ◌-◌, ◌*◌, ◌/◌, ◌%◌, ◌^◌, length, ap, ◌∙◌, arith}
use Rattle.fields.proofs.Windows.{window_in}
use Rattle.fields.proofs.get_of_few.Goals as goal

pub returns : goal.returns
returns c =
    let a = c.args in
    let l = a.bytes.now in
    let first = a.place / 8 in
    let up = 64 - (8 * length l - a.place) in
    ap (λ (x : ℕ). x * 2 ^ up % 2 ^ 64 / 2 ^ (64 - a.width)) c.gathered-number.ensures
    ∙ window_in l (8 * first) (8 * (length l - first)) a.place a.width up (omega arith) (omega arith) (omega arith) (omega arith)
