-- What a request asks for, without its key.
use Rattle.lz_proto.specs.declared.request.Request.TheVariants as request
use Rattle.lz_serve.specs.declared.observer.Verb.TheVariants as verb
use Rattle.lz_proto.specs.declared.request.Request.{Request}
use Rattle.lz_serve.specs.declared.observer.Verb.{Verb}

-- A session never asks `quit`, which asks for no key.
abbrev pub verb_of : Request → Verb
verb_of (request.Add k) = verb.Add
verb_of (request.Remove k) = verb.Remove
verb_of (request.Has k) = verb.Has
verb_of request.Quit = verb.Has
