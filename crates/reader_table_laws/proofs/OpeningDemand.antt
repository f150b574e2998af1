-- Demand 3 of each opening, from that of the reader: its calls are those of a reader of its own, so it is cited and not shown anew.
use Rattle.std.specs.Prelude.{◌≡◌, true, List, ◌++◌, map, ℕ, ◌+◌, length, Some}
use Rattle.std.proofs.Common.{sym, ap, ◌∙◌, subst}
use Rattle.std.proofs.Math.Option.{some}
use Rattle.profile.specs.declared.Profile.{Profile}
use Rattle.profile.specs.Profile.{profile_numbered}
use Rattle.stream.specs.Written.{Sent}
use Rattle.reader.specs.declared.Reader.{Reader}
use Rattle.reader.specs.Reader.{fresh_reader}
use Rattle.recovery.specs.Calls.{Call, ended_by, lines_from, start_after, as_sent, gap_as_sent, closed_by, closed, mark_nibbles, Collector, line_collector, gap_collector, on_taken, on_lines, on_gaps, DemandThree}
use Rattle.reader_laws.proofs.Passes.{fresh_ok}
use Rattle.refinement.specs.ReaderCalls.{reader_call}
use Rattle.refinement.specs.Runs.{RunCall, on_runs, runs_taken, runs_collected, all_one_by_one, SameAsFeeds}
use Rattle.refinement.proofs.RunsLaws.{same_as_feeds, runs_demand_three}
use Rattle.refinement.proofs.RunsReached.{runs_ok}
use Rattle.reader_table.specs.declared.ReaderTable.{ReaderTable}
use Rattle.technician.specs.Technician.{is_technician}
use Rattle.reader_table.specs.Table.{held_by, at_place, open_place_of}
use Rattle.reader_table_laws.specs.History.{TableCall, TableReply}
use Rattle.reader_table_laws.specs.Openings.{calls_of, calls_after, nibbles_in, nibbles_of, told_collected, collected_of, collected_after, OpeningMeetsDemandThree}
use Rattle.reader_table_laws.proofs.OpeningLaws.{opened_by_lem, opened_fresh, projected, nibbles_told, collected_told, calls_last}
use Rattle.reader_table_laws.proofs.Parts.{calls_append, after_projected, one_by_one_append}

-- Demand 3 of the reader, split between calls that may be runs.

module _ (p : Profile) (ss : List Sent) (a b : ℕ) (new : List ℕ) (cs ds : List RunCall) where
  abbrev start : Reader
  start = fresh_reader p

  abbrev singles : List Call
  singles = all_one_by_one start cs

  abbrev later : List Call
  later = all_one_by_one (on_runs start cs) ds

  same : SameAsFeeds p start cs
  same = same_as_feeds p cs start (fresh_ok p)

  same_later : SameAsFeeds p (on_runs start cs) ds
  same_later = same_as_feeds p ds (on_runs start cs) (runs_ok p cs start (fresh_ok p))

  module _ (d : DemandThree reader_call p start ss a b new (all_one_by_one start (cs ++ ds))) where
    split : singles ++ later ≡ all_one_by_one start (cs ++ ds)
    split = sym (one_by_one_append cs start ds)

    took_so_many : {n : ℕ} → length (runs_taken start cs) ≡ n → length (on_taken reader_call start singles) ≡ n
    took_so_many e = ap length (sym same.same_taken) ∙ e

    runs_before : length (runs_taken start cs) ≡ a → runs_collected line_collector p start cs ≡ map as_sent (ended_by a 0 ss)
    runs_before e = same.same_lines ∙ d.lines_before singles later split (took_so_many e)

    runs_after : length (runs_taken start cs) ≡ start_after ss a b new
        → runs_collected line_collector p (on_runs start cs) ds ≡ map as_sent (lines_from b 0 ss)
    runs_after e =
        same_later.same_lines
        ∙ ap (λ (r : Reader). on_lines reader_call p r later) same.same_reader
        ∙ d.lines_after singles later split (took_so_many e)

    gaps_before : length (runs_taken start cs) ≡ a → runs_collected gap_collector p start cs ≡ map gap_as_sent (closed_by a 0 ss)
    gaps_before e = same.same_gaps ∙ d.periods_before singles later split (took_so_many e)

    gaps_after : length (runs_taken start cs) ≡ start_after ss a b new + mark_nibbles
        → runs_collected gap_collector p (on_runs start cs) ds ≡ map gap_as_sent (closed (lines_from b 0 ss))
    gaps_after e =
        same_later.same_gaps
        ∙ ap (λ (r : Reader). on_gaps reader_call p r later) same.same_reader
        ∙ d.periods_after singles later split (took_so_many e)

-- A place that holds a fresh reader, as an opening leaves it, and a finish.

module _ (p : Profile) (who : ℕ) (h : is_technician who ≡ true) (i : ℕ) (t : ReaderTable) (e : held_by t who i ≡ some (fresh_reader p)) where
  took : (cs : List TableCall) → nibbles_of who i t cs ≡ runs_taken (fresh_reader p) (calls_of who i cs)
  took cs =
      ap (λ (ts : List TableReply). nibbles_in (calls_of who i cs) ts) (projected who h i cs t (fresh_reader p) e)
      ∙ nibbles_told (calls_of who i cs) (fresh_reader p)

  collected_before : {A : Type 0} (k : Collector A) (first : List TableCall)
      → collected_of k p who i t first ≡ runs_collected k p (fresh_reader p) (calls_of who i first)
  collected_before k first =
      ap (told_collected k p (calls_of who i first)) (projected who h i first t (fresh_reader p) e)
      ∙ collected_told k p (calls_of who i first) (fresh_reader p)

  collected_after_lem : {A : Type 0} (k : Collector A) (first rest : List TableCall)
      → collected_after k p who i t first rest ≡ runs_collected k p (on_runs (fresh_reader p) (calls_of who i first)) (calls_after who i first rest)
  collected_after_lem k first rest =
      ap (told_collected k p (calls_after who i first rest)) (after_projected who h i first rest t (fresh_reader p) e)
      ∙ collected_told k p (calls_after who i first rest) (on_runs (fresh_reader p) (calls_of who i first))

  pub fresh_demand_three : OpeningMeetsDemandThree p who i t
  fresh_demand_three ss good a b l m new cs taken =
      let k = runs_demand_three p ss good a b l m new (calls_of who i cs) (calls_last who i cs) (sym (took cs) ∙ taken) in
      record {
        own_reader = projected who h i cs t (fresh_reader p) e;
        one_by_one = k.0;
        demand_three = k.1;
        lines_before = λ first rest parts n.
            collected_before line_collector first
            ∙ runs_before p ss a b new (calls_of who i first) (calls_after who i first rest)
            (cut ss a b new first rest cs parts k.1) (ap length (sym (took first)) ∙ n);
        lines_after = λ first rest parts n.
            collected_after_lem line_collector first rest
            ∙ runs_after p ss a b new (calls_of who i first) (calls_after who i first rest)
            (cut ss a b new first rest cs parts k.1) (ap length (sym (took first)) ∙ n);
        periods_before = λ first rest parts n.
            collected_before gap_collector first
            ∙ gaps_before p ss a b new (calls_of who i first) (calls_after who i first rest)
            (cut ss a b new first rest cs parts k.1) (ap length (sym (took first)) ∙ n);
        periods_after = λ first rest parts n.
            collected_after_lem gap_collector first rest
            ∙ gaps_after p ss a b new (calls_of who i first) (calls_after who i first rest)
            (cut ss a b new first rest cs parts k.1) (ap length (sym (took first)) ∙ n);
      }
    where
      cut : (ss : List Sent) (a b : ℕ) (new : List ℕ) (first rest cs : List TableCall) → first ++ rest ≡ cs
          → DemandThree reader_call p (fresh_reader p) ss a b new (all_one_by_one (fresh_reader p) (calls_of who i cs))
          → DemandThree reader_call p (fresh_reader p) ss a b new (all_one_by_one (fresh_reader p) (calls_of who i first ++ calls_after who i first rest))
      cut ss a b new first rest cs parts d =
          subst (λ (l : List RunCall). DemandThree reader_call p (fresh_reader p) ss a b new (all_one_by_one (fresh_reader p) l))
          (ap (calls_of who i) (sym parts) ∙ calls_append who i first rest) d

-- demand 3 of each opening, whatever the table before it
pub opening_demand_three : (t : ReaderTable) (who n : ℕ) (p : Profile) (i : ℕ) → profile_numbered n ≡ Some p
    → (open_place_of t who n).placing ≡ at_place i
    → OpeningMeetsDemandThree p who i (open_place_of t who n).table
opening_demand_three t who n p i e f =
    fresh_demand_three p who (opened_by_lem t who n i f).0 i (open_place_of t who n).table (opened_fresh t who n p i e f)
