use Rattle.lz_resp.proofs.reply.push_bits.Given as goal
use Rattle.std.{proofs.Common.{◌≡◌, ◌++◌, take}, specs.List.{flat_map}}
use Rattle.lz_resp.specs.Replies.{bit}

abbrev pub invariant-loop-reply : goal.invariant-loop-reply
invariant-loop-reply l = l.text.items ≡ l.initial.text.items ++ flat_map bit (take l.reply-index l.replies)
