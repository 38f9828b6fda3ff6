-- The round trips of slips, proved over the definitions alone.
use mathlib.Core.Path.{◌≡◌, refl, sym, ap, ◌∙◌, subst}
use mathlib.Core.List.{List}
use Prim.Native.Nat.{ℕ, ◌≤◌, ◌<◌}
use native.Mathlib.Nat.{not-suc-le-zero}
use native.Mathlib.Omega.{arith}
use lib.ListN.{length, take}
use Rattle.tables.specs.Tables.{Row, answer}
use Rattle.tables.proofs.Tables.{answered, by_answer}
use Rattle.tables.proofs.Tests.{is_false}
use Rattle.clock.specs.Update.{values_outside, updating, SameRequest}
use Rattle.clock.specs.declared.Request.{Request}
use Rattle.clock.proofs.Requests.{same_through, same_back}
use Rattle.demands.proofs.Unflagged.{ignores_version}
use Rattle.slip.specs.Layout.{widths_by, length_by, slip_length}
use Rattle.slip.specs.Reading.{headed, reading_front, reading_single}
use Rattle.slip.specs.Writing.{in_slip, slip_of, asked_table, written_length, Outcome, writing}
use Rattle.slip.specs.declared.Received.{Received}
use Rattle.slip.proofs.Layouts.{length_low, total_high, length_high}
use Rattle.slip.proofs.Writings.{Writable, asked_writable, asked_passed, writing_filled}
use Rattle.slip.proofs.Versions.{slip_writable, slip_same}
use Rattle.slip.proofs.Fronts.{front_within, front_size}
use Rattle.round_trips.specs.RoundTrips.{BackFrom, Sized, ReadsAs, ReadsBack, NeverShared, AlwaysShared, DoesTheSame, Rewritten, Measured, ReadLength, SingleLength, WrittenLength, TellsLength, Numbered}
use Rattle.round_trips.proofs.Taken.{single_accepted, single_front, single_all, written_writable, written_room, written_slip, written_size}
use Rattle.round_trips.proofs.Returning.{kept, kept_same, kept_back, kept_writable, slip_read}
use Rattle.round_trips.proofs.Rewriting.{copied, copied_all, takes, front_rewritten}
use Rattle.round_trips.proofs.AnswerProofs.{same_bytes}

measured : (u : Request) (n : ℕ) → n ≡ slip_length u → Measured u n
measured u n e = record { called = e; low = omega (arith, length_low u); high = omega (arith, length_high u); bits = total_high u }

pub numbered : Numbered
unfolding widths_by length_by
numbered = record { header = refl; bits = refl; bytes = refl; wide_bits = refl; wide_bytes = refl }

-- ---- written, then read

reads_as : (u : Request) → Writable u → Sized u → ReadsAs u (slip_of u)
reads_as u w s =
    let e = slip_read u w s in
    record {
      accepted = ap (λ (r : Received). r.refusal) e;
      back = subst (λ (r : Received). BackFrom u r.request) (sym e) (kept_back u w);
    }

pub reads_back : ReadsBack
reads_back u buffer s accepted =
    subst (ReadsAs u) (sym (written_slip u buffer accepted)) (reads_as u (written_writable u buffer accepted) s)

pub does_the_same : DoesTheSame
does_the_same u buffer s accepted c now =
    let w = written_writable u buffer accepted in
    let v = kept (in_slip u) in
    let r : (reading_single (take (writing u buffer).length (writing u buffer).buffer)).request ≡ v =
    ap (λ (bytes : List ℕ). (reading_single bytes).request) (written_slip u buffer accepted) ∙ ap (λ (r : Received). r.request) (slip_read u w s) in
    let k = kept_writable (in_slip u) (slip_writable u w) in
    ap (λ (x : Request). updating c x now) r
    ∙ sym (ignores_version c u v now (kept_same u w) (is_false (values_outside u) w.values ∙ sym (is_false (values_outside v) k.values)))

-- ---- lengths of what is written

pub written_length_lem : WrittenLength
written_length_lem u buffer accepted = measured (in_slip u) (writing u buffer).length (written_size u buffer accepted)

pub tells_length : TellsLength
unfolding written_length
tells_length u buffer = record {
  written = λ accepted. written_size u buffer accepted ∙ told accepted;
  needed = λ accepted. subst (λ (n : ℕ). n ≤ length buffer) (told accepted) (written_room u buffer accepted);
  enough =
      by_answer rows size (λ n. 0) (λ (n : ℕ). 0 < n → n ≤ length buffer → (writing u buffer).refusal ≡ 0)
      (λ e some room. ap (λ (o : Outcome). o.refusal) (sym (writing_filled u buffer (takes u (length buffer) (asked_writable u e) room))))
      (λ n e h some room. absurd (not-suc-le-zero some));
}
  where
    rows : List Row
    rows = asked_table u

    size : ℕ
    size = slip_length (in_slip u)

    told : (writing u buffer).refusal ≡ 0 → size ≡ answer rows size (λ n. 0)
    told accepted = answered rows size (λ n. 0) (asked_passed u (written_writable u buffer accepted))

-- ---- read, then written

read_all : (bytes : List ℕ) → (reading_single bytes).refusal ≡ 0 → (reading_front bytes).length ≡ length bytes
read_all bytes accepted = omega (arith, front_within bytes, single_all bytes accepted)

pub read_length : ReadLength
read_length bytes accepted = measured (headed bytes) (reading_front bytes).length (front_size bytes accepted)

pub single_length : SingleLength
single_length bytes accepted =
    measured (headed bytes) (length bytes) (sym (read_all bytes accepted) ∙ front_size bytes (single_accepted bytes accepted))

pub rewritten : Rewritten
rewritten bytes buffer hb accepted h =
    let all = read_all bytes accepted in
    ap (λ (r : Received). writing r.request buffer) (single_front bytes accepted)
    ∙ front_rewritten bytes buffer hb (single_accepted bytes accepted) (omega (arith, all))
    ∙ ap (λ (n : ℕ). copied n bytes buffer) all
    ∙ copied_all bytes buffer

-- ---- no two requests share a slip

-- requests that are the same as one are the same as each other
joined : (u v w : Request) → SameRequest u w → SameRequest v w → SameRequest u v
joined u v w p q = record {
  known = p.known;
  other_known = q.known;
  flags = p.flags ∙ sym q.flags;
  arguments = same_through u w v p.flags p.arguments (same_back v w q.flags q.arguments);
}

pub never_shared : NeverShared
never_shared u v left right su sv au av e =
    let r = reads_as v (written_writable v right av) sv in
    joined u v (reading_single (slip_of v)).request
    (subst (λ (bytes : List ℕ). SameRequest u (reading_single bytes).request) e (reads_as u (written_writable u left au) su).back.same)
    r.back.same

pub always_shared : AlwaysShared
always_shared u v same = same_bytes (in_slip u) (in_slip v) (slip_same u v same.flags same.arguments)
