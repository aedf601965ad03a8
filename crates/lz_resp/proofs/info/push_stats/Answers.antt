use Rattle.lz_resp.proofs.info.push_stats.Goals as goal
use Rattle.std.proofs.Common.{◌≡◌, ◌++◌, List, ℕ, ap, codes, ◌∙◌}
use Rattle.lz_resp.{specs.Queries.{row, stats_text}, proofs.Joined.{four}}

pub returns : goal.returns
unfolding stats_text
returns c =
    let t = c.args.text.now.items in
    let f = c.args.figures.now in
    let sessions = row (codes "total_connections_received") f.sessions in
    let answered = row (codes "total_commands_processed") f.answered in
    let rate = row (codes "instantaneous_ops_per_sec") f.rate in
    let first : c.push_row.new.text.items ≡ (t ++ codes "# Stats\r\n") ++ sessions = c.in_ok-push_row.ensures ∙ ap (λ (x : List ℕ). x ++ sessions) c.in_ok-extend_from_slice.ensures.items in
    let second : c.push_row-2.new.text.items ≡ ((t ++ codes "# Stats\r\n") ++ sessions) ++ answered = c.in_ok-push_row-2.ensures ∙ ap (λ (x : List ℕ). x ++ answered) first in
    c.in_ok-push_row-3.ensures ∙ ap (λ (x : List ℕ). x ++ rate) second ∙ four t (codes "# Stats\r\n") sessions answered rate
