-- What a contract sees of a `Cache`: the sectors that it holds.
use Rattle.buffer_cache.specs.declared.cache.Cache.{Cache}
use Rattle.buffer_cache.specs.declared.held.HeldSectors.{HeldSectors}

abbrev pub sectors_of : Cache → HeldSectors
sectors_of cache = cache.sectors
