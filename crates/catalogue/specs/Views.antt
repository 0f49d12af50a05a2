-- The station that a catalogue is.
use Rattle.catalogue.specs.declared.catalogue.Catalogue.TheInside.{Inside}
use Rattle.catalogue.specs.Stations.{Station}

abbrev pub station_of : Inside → Station
station_of c = record { timing = c.timing; clock = c.clock; partners = c.partners.items; counts = c.counts }
