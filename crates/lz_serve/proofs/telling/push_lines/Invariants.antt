use Rattle.lz_serve.proofs.telling.push_lines.Given as goal
use Rattle.std.specs.{Prelude.{◌≡◌, ◌++◌, take}, List.{flat_map}}
use Rattle.lz_proto.specs.Sessions.{reply_text}

abbrev pub invariant-loop-reply : goal.invariant-loop-reply
invariant-loop-reply l = l.text.items ≡ l.initial.text.items ++ flat_map reply_text (take l.reply-index l.replies)
