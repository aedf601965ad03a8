use Rattle.lazyset_file_commands.proofs.shown.send_found.Goals as goal
use Rattle.std.{proofs.Common.{ℕ, ◌+◌, List, ◌++◌, Err, ap, subst}, specs.{List.{flat_map}, String.{string_bytes}}}
use Rattle.lz_proto.specs.Steps.{IsCutShort, SendTells}
use Rattle.lazyset_file_commands.specs.{Checks.{end_text, line_of}, Tellings.{IsSentTo}}
use Rattle.lazyset_file_commands.proofs.Pages.{cut_tells, lines_all, lines_cut, lines_step, lines_to, page_all, page_cut, page_more, sent_or_cut}
use Rattle.lazyset_file_commands.proofs.SentTexts.{sent_more}

pub returns-in-Err : goal.returns-in-Err
returns-in-Err g c =
    let kept = g.W.Write.contents in
    let found = c.args.findings.now in
    let i = c.loop-finding.finding-index in
    let first = string_bytes c.args.first in
    let line = line_of c.args.shown c.finding-item.result in
    let cut = page_cut (kept c.args.writer.now) (kept c.loop-finding.writer) (first ++ lines_to c.args.shown found i) (string_bytes c.loop-finding.page) c.loop-finding.invariant (kept c.put_line.new.writer) line c.in-Err.ensures in
    lines_cut c.args.shown found (kept c.args.writer.now) (kept c.put_line.new.writer) first (end_text c.args.shown c.args.is_good) (i + 1)
    (subst (IsCutShort (kept c.args.writer.now) (kept c.put_line.new.writer)) (lines_step c.args.shown found first i c.finding-item.result c.loop-finding-test.true c.finding-item.is) cut)

pub loop-finding-preserved : goal.loop-finding-preserved
loop-finding-preserved g c =
    let kept = g.W.Write.contents in
    let found = c.args.findings.now in
    let i = c.loop-finding.finding-index in
    let first = string_bytes c.args.first in
    let line = line_of c.args.shown c.finding-item.result in
    let left = string_bytes c.put_line.new.page in
    subst (λ (t : List ℕ). IsSentTo (kept c.args.writer.now) (kept c.put_line.new.writer) t left) (lines_step c.args.shown found first i c.finding-item.result c.loop-finding-test.true c.finding-item.is)
    (page_more (kept c.args.writer.now) (kept c.loop-finding.writer) (first ++ lines_to c.args.shown found i) (string_bytes c.loop-finding.page) c.loop-finding.invariant (kept c.put_line.new.writer) line left c.in_default.ensures)

pub returns-in-Err-send : goal.returns-in-Err-send
returns-in-Err-send g c =
    let kept = g.W.Write.contents in
    let found = c.args.findings.now in
    let i = c.loop-finding.finding-index in
    let first = string_bytes c.args.first in
    let sent = subst (λ (t : List ℕ). SendTells (kept c.loop-finding.writer) (kept c.send.new.writer) t (Err c.in-Err-send.fault)) c.as_bytes.ensures.value c.in-Err-send.ensures in
    lines_cut c.args.shown found (kept c.args.writer.now) (kept c.send.new.writer) first (end_text c.args.shown c.args.is_good) i
    (cut_tells (kept c.args.writer.now) (kept c.send.new.writer) (first ++ lines_to c.args.shown found i) c.in-Err-send.fault
    (page_all (kept c.args.writer.now) (kept c.loop-finding.writer) (first ++ lines_to c.args.shown found i) (string_bytes c.loop-finding.page) c.loop-finding.invariant (kept c.send.new.writer) (Err c.in-Err-send.fault) sent))

pub returns : goal.returns
returns g c =
    let kept = g.W.Write.contents in
    let found = c.args.findings.now in
    let i = c.loop-finding.finding-index in
    let first = string_bytes c.args.first in
    let sent = subst (λ (t : List ℕ). SendTells (kept c.loop-finding.writer) (kept c.send.new.writer) t c.send.result) c.as_bytes.ensures.value c.send.ensures in
    let sent_to = page_all (kept c.args.writer.now) (kept c.loop-finding.writer) (first ++ lines_to c.args.shown found i) (string_bytes c.loop-finding.page) c.loop-finding.invariant (kept c.send.new.writer) c.send.result sent in
    let whole = subst (λ r. SendTells (kept c.args.writer.now) (kept c.send.new.writer) (first ++ lines_to c.args.shown found i) r) c.in_default-send.is sent_to in
    let last = subst (λ (t : List ℕ). SendTells (kept c.send.new.writer) (kept c.send-2.new.writer) t c.send-2.result) c.end_of.ensures c.send-2.ensures in
    sent_or_cut (kept c.args.writer.now) (kept c.send-2.new.writer) (first ++ flat_map (line_of c.args.shown) found ++ end_text c.args.shown c.args.is_good) c.send-2.result
    (subst (λ (t : List ℕ). SendTells (kept c.args.writer.now) (kept c.send-2.new.writer) (t ++ end_text c.args.shown c.args.is_good) c.send-2.result)
    (ap (λ (x : List ℕ). first ++ x) (lines_all c.args.shown found i c.loop-finding-test.false))
    (sent_more (kept c.args.writer.now) (kept c.send.new.writer) (kept c.send-2.new.writer) (first ++ lines_to c.args.shown found i) (end_text c.args.shown c.args.is_good) c.send-2.result whole last))
