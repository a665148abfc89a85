mod FleetCalls
mod FleetLaws
mod FleetPorts
