-- Document 01, 'One tick, in order' and 'Who commands', of a tick that finds the drive `d`: what rules it, what it leaves, and the
-- conditions of step 4 one by one.
use Rattle.std.specs.Prelude.{false, not, ◌&&◌, ℕ, leb, eqb}
use Rattle.numbers.specs.Numbers.{pick, on}
use Rattle.table.specs.Table.{act_pos_cov, min_rep_time, rep_per}
use Rattle.rules.specs.Report.{changed}
use Rattle.damper.specs.declared.Drive.{Drive}
use Rattle.damper.specs.WellFormed.{well_formed}
use Rattle.damper.specs.Tick.{aged, ruling, target_at, advance, status_of}
use Rattle.outlook.specs.declared.Outlook.{Outlook}

-- "since is at least MinRepTime and one of these holds: no report yet; 100 × the distance from the last reported position is at least
-- 255 × ActPosCOV; status differs; since is at least RepPer", by the record `n` after steps 1 to 3. Without a last report nothing
-- differs from it.
abbrev pub outlook_after : ℕ → ℕ → Drive → Outlook
outlook_after rank target n =
    let reported = on n.last.reported in
    record {
      refusal = 0;
      rank = rank;
      target = target;
      position = n.position;
      status = status_of n;
      waited = leb (min_rep_time n.params) n.since;
      first = not reported;
      changed = reported && changed (act_pos_cov n.params) n.position n.last.position;
      differs = reported && not (eqb (status_of n) n.last.status);
      period = leb (rep_per n.params) n.since;
    }

-- of a record that is not well formed, refusal 1 alone
abbrev pub no_outlook : Outlook
no_outlook =
    record {
      refusal = 1;
      rank = 0;
      target = 0;
      position = 0;
      status = 0;
      waited = false;
      first = false;
      changed = false;
      differs = false;
      period = false;
    }

-- the "ruling rank during the move" and its target are found after step 1
unfoldable pub outlook_of : Drive → Outlook
outlook_of d =
    let a = aged d in
    pick (well_formed d) (outlook_after (ruling a) (target_at a (ruling a)) (advance d).drive) no_outlook
