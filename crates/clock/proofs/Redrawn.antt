-- What is known of an update that the rules before 12 let pass, and of the line that it draws.
use mathlib.Core.Path.{◌≡◌, refl, sym, ap, ◌∙◌}
use lib.IntN.{ℤ}
use Rattle.std.specs.Prelude.{Option, Some, None, Err, cond, unwrap_or}
use Rattle.tables.specs.Tables.{first}
use Rattle.tables.specs.Refusals.{number}
use Rattle.tables.specs.declared.Refusal.{Refusal}
use Rattle.tables.proofs.Tables.{passed}
use Rattle.tables.proofs.Refusals.{answer_taken, answer_refused}
use Rattle.line.specs.Value.{held, line_or}
use Rattle.line.specs.declared.Line.{Line}
use Rattle.clock.specs.Clock.{old_line, InRange, Valid}
use Rattle.clock.specs.Taken.{guarded}
use Rattle.clock.specs.Update.{flagged, has_synthetic, has_rate, effect, point, new_line, request_table, new_line_table, update_table, updated, updating, update_told}
use Rattle.clock.specs.Parts.{Judged}
use Rattle.clock.specs.declared.Clock.{Clock}
use Rattle.clock.specs.declared.Flags.{Flags}
use Rattle.clock.specs.declared.Request.{Request}
use Rattle.clock.proofs.Requests.{point_in_range, rate_permitted}
use Rattle.clock.proofs.Taken.{taken_valid}
use Rattle.clock.proofs.NewLine.{Asked, asked, line_decides, new_begins, found_computable, found_new, passed_in_range}

or_same : (redrawn : Option Line) (old : Line) → unwrap_or redrawn old ≡ line_or redrawn old
or_same None old = refl
or_same (Some l) old = refl

-- the point as the code finds it
pub point_is : (u : Request) {now at reference t : ℤ} {flags : Flags} → flags ≡ flagged u → reference ≡ u.reference → t ≡ now →
    at ≡ cond flags.reference reference t → at ≡ point u now
unfolding point
point_is u f r t h = h ∙ simp (f, r, t)

module _ (c : Clock) (u : Request) (now : ℤ) (e : first (guarded c (request_table c u now)) ≡ 0) where
  abbrev pub known : Asked c u now
  known = asked c u now e

  pub valid : Valid c
  valid = taken_valid c known.clock

  pub at_point : InRange (point u now)
  at_point = point_in_range u known.values now known.time

  pub drawn_is : {redrawn : Option Line} {old : Line} {at : ℤ} → old ≡ old_line c → at ≡ point u now →
      redrawn ≡ held (effect (has_synthetic u) (has_rate u) old at u.synthetic u.rate) → redrawn ≡ held (new_line c u now)
  unfolding new_line
  drawn_is o p r = r ∙ simp (o, p)

  pub judged : {redrawn : Option Line} {l old : Line} → old ≡ old_line c → redrawn ≡ held (new_line c u now) → l ≡ unwrap_or redrawn old →
      Judged c u now redrawn l old
  judged {redrawn} {l} {old} o r f =
      let found : l ≡ line_or redrawn (old_line c) = f ∙ or_same redrawn old ∙ simp o in
      record {
        clock = valid;
        time = known.time;
        drawn = r;
        line = found;
        before = o;
        computable = rw (found, r) (found_computable c u now valid (new_begins c u now valid at_point (rate_permitted u known.rate)));
      }

  -- the line that is drawn where rules 12 to 14 let it pass
  pub drawn_new : {redrawn : Option Line} {l old : Line} → old ≡ old_line c → redrawn ≡ held (new_line c u now) → l ≡ unwrap_or redrawn old →
      0 ≡ first (new_line_table c u now) → l ≡ new_line c u now
  unfolding new_line_table
  drawn_new o r f z =
      (judged o r f).line
      ∙ ap (λ (x : Option Line). line_or x (old_line c)) r
      ∙ found_new c u now (passed_in_range c u now valid (passed 12 (new_line_table c u now) tt (sym z)))

  pub redraw_refused : (r : Refusal) → number r ≡ first (new_line_table c u now) → update_told c (Err r) ≡ updating c u now
  unfolding updating
  redraw_refused r h = answer_refused (guarded c (update_table c u now)) _ _ r (h ∙ sym (line_decides c u now e))

  pub redraw_taken : 0 ≡ first (new_line_table c u now) → record { clock = updated c u now; refusal = 0 } ≡ updating c u now
  unfolding updating
  redraw_taken h = answer_taken (guarded c (update_table c u now)) _ _ (h ∙ sym (line_decides c u now e))
