-- Kinds of events.
use Rattle.lz_machine.specs.declared.event.Event.TheVariants as event
use Rattle.lz_machine.specs.declared.kind.Kind.TheVariants as kind
use Rattle.lz_machine.specs.declared.{event.Event.{Event}, kind.Kind.{Kind}}

-- the kind of an event
abbrev pub kind_of : Event → Kind
kind_of (event.Invoke c) = kind.Invoke
kind_of event.Pin = kind.Pin
kind_of (event.Hop word) = kind.Hop
kind_of event.Reserve = kind.Reserve
kind_of (event.WriteKey k) = kind.WriteKey
kind_of (event.Claim pred curr) = kind.Claim
kind_of event.Check = kind.Check
kind_of event.WriteOpen = kind.WriteOpen
kind_of event.Link = kind.Link
kind_of event.WriteClose = kind.WriteClose
kind_of event.Mark = kind.Mark
kind_of event.Release = kind.Release
kind_of (event.Sync s) = kind.Sync
kind_of (event.Settle s) = kind.Settle
kind_of event.Unlink = kind.Unlink
kind_of event.Retire = kind.Retire
kind_of (event.SeePin p value) = kind.SeePin
kind_of event.Answer = kind.Answer
kind_of event.Halt = kind.Halt
